-- The state of a session, which statements change: AUTOCOMMIT, the transaction that is open, and what SHOW META tells. "BEGIN, COMMIT, and ROLLBACK
-- syntax" and "SET syntax" of the manual.
use Rattle.std.specs.Prelude.{ℕ, ◌+◌, List, [], ◌++◌, Bool, true, false, ◌&&◌, ◌||◌, not, Option, Some, None, is_some, if◌then◌else◌}
use Rattle.doc_types.specs.declared.transactions.Txn.{Txn}
use Rattle.doc_types.specs.declared.transactions.TxnOp.{TxnOp}
use Rattle.commit_outcomes.specs.declared.outcome.CommitOutcome.{CommitOutcome}
use Rattle.commit_outcomes.specs.declared.outcome.CommitOutcome.TheVariants as outcomes
use Rattle.ql_answers.specs.Pending.{PendingValue}
use Rattle.ql_answers.specs.declared.meta.Meta.{Meta}
use Rattle.ql_answers.specs.declared.state.State.{State}
use Rattle.ql_answers.specs.declared.turn.Turn.{Turn}
use Rattle.ql_answers.specs.declared.turn.Turn.TheVariants.{Stays, Opens, Ends, Sets}

-- the state in which a session begins
abbrev pub new_state : State
new_state = record { autocommit = true; opened = false; pending = None; meta = None }

-- a transaction is open: BEGIN opened it, or an operation is pending
abbrev pub is_open : State → Bool
is_open state = state.opened || is_some state.pending

-- each statement that writes is committed by itself
abbrev pub is_alone : State → Bool
is_alone state = state.autocommit && not state.opened

-- the status of a packet: 2 while autocommit is 1, 1 while a transaction is open, 8 where another statement follows
abbrev pub status_of : State → Bool → ℕ
status_of state more = (if state.autocommit then 2 else 0) + (if is_open state then 1 else 0) + (if more then 8 else 0)

-- the operations that are pending
abbrev pub pending_ops : Option PendingValue → List TxnOp
pending_ops None = []
pending_ops (Some pending) = pending.ops

-- operations on the index at a place are pending too
abbrev pub kept : ℕ → List TxnOp → State → State
kept place ops state = record state { pending = Some (record { place = place; ops = pending_ops state.pending ++ ops }) }

-- the transaction is over: what was pending is pending no more
abbrev pub ended : State → State
ended state = record { autocommit = state.autocommit; opened = false; pending = None; meta = state.meta }

-- what becomes of the transaction
abbrev pub turned : Turn → State → State
turned Stays state = state
turned Opens state = record { autocommit = state.autocommit; opened = true; pending = None; meta = state.meta }
turned Ends state = ended state
turned (Sets true) state = record { autocommit = true; opened = false; pending = None; meta = state.meta }
turned (Sets false) state = record state { autocommit = false }

-- what is pending, as a transaction
abbrev pub pending_txn : Option PendingValue → Option Txn
pending_txn None = None
pending_txn (Some pending) = Some (record { ops = pending.ops })

-- the session once what is pending was to be committed: a commit that was refused, or is in doubt, ends the transaction too, and that
-- is all it does
abbrev pub finished : Turn → CommitOutcome → State → State
finished turn (outcomes.Committed removed) state = turned turn state
finished turn outcome state = ended state

-- the session once SHOW META tells something anew, if it does
abbrev pub telling : Option Meta → State → State
telling None state = state
telling (Some meta) state = record { autocommit = state.autocommit; opened = state.opened; pending = state.pending; meta = Some meta }
