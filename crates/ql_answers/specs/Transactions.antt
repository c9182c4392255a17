-- Statements that write, and those that end a transaction: which operations they are, when these are committed, and why they are
-- refused. "INSERT and REPLACE syntax", "DELETE syntax", "TRUNCATE RTINDEX syntax" and "BEGIN, COMMIT, and ROLLBACK syntax" of the
-- manual.
use Rattle.std.specs.Prelude.{ℕ, List, [], ◌∷◌, ◌++◌, ◌==◌, Bool, Option, Some, None, length, map, nat_le, if◌then◌else◌}
use Rattle.doc_types.specs.declared.transactions.Txn.{Txn}
use Rattle.doc_types.specs.declared.transactions.TxnOp.{TxnOp}
use Rattle.doc_types.specs.declared.transactions.TxnOp.TheVariants as operations
use Rattle.ql_tree.specs.declared.statement.Ids.{Ids}
use Rattle.ql_tree.specs.declared.statement.Ids.TheVariants.{One, Several}
use Rattle.ql_refusals.specs.Refusals.{Refused, first, other_index, too_many_operations, transaction_too_large, unless}
use Rattle.ql_answers.specs.declared.pending.TheConstants.{MAX_OPERATIONS, MAX_TRANSACTION_BYTES}
use Rattle.ql_answers.specs.declared.plan.Counted.{Counted}
use Rattle.ql_answers.specs.declared.plan.Counted.TheVariants.{Rows, Removed, Nothing}
use Rattle.ql_answers.specs.declared.plan.Plan.{Plan}
use Rattle.ql_answers.specs.declared.plan.Plan.TheVariants.{Agree, Keep, Put, Commit}
use Rattle.ql_answers.specs.declared.state.State.{State}
use Rattle.ql_answers.specs.declared.turn.Turn.{Turn}
use Rattle.ql_answers.specs.Pending.{PendingValue, size_of}
use Rattle.ql_answers.specs.States.{is_alone, pending_ops}

-- REPLACE puts the document that INSERT inserts
abbrev pub put_by : TxnOp → TxnOp
put_by (operations.Insert doc) = operations.Put doc
put_by op = op

-- the operations of an INSERT, or of a REPLACE, whose rows are inserted by these
abbrev pub stored : Bool → Txn → Txn
stored replace inserted = if replace then record { ops = map put_by inserted.ops } else inserted

-- DELETE kills each id that it names
abbrev pub killing : Ids → Txn
killing (One id) = record { ops = operations.Kill id ∷ [] }
killing (Several ids) = record { ops = map operations.Kill ids }

-- TRUNCATE clears
abbrev pub clearing : Txn
clearing = record { ops = operations.Clear ∷ [] }

-- pending operations are on another index
abbrev pub index_fault_of : Option PendingValue → ℕ → Option Refused
index_fault_of None place = None
index_fault_of (Some pending) place = unless (pending.place == place) other_index

-- the operations are more than a transaction has
abbrev pub size_fault : List TxnOp → Option Refused
size_fault ops = first (unless (nat_le (length ops) MAX_OPERATIONS) too_many_operations) (unless (nat_le (size_of ops) MAX_TRANSACTION_BYTES) transaction_too_large)

-- what forbids that operations on the index at a place follow those that are pending
abbrev pub write_fault : State → ℕ → Txn → Option Refused
write_fault state place txn = first (index_fault_of state.pending place) (size_fault (pending_ops state.pending ++ txn.ops))

-- how many rows are affected, of so many rows of a text and so many ids that were removed
abbrev pub affected : Counted → ℕ → ℕ → ℕ
affected Rows rows removed = rows
affected Removed rows removed = removed
affected Nothing rows removed = 0

-- operations are committed by themselves, or are pending from now on
abbrev pub written : State → ℕ → Txn → Counted → Plan
written state place txn counted = if is_alone state then Put place txn counted else Keep place txn (affected counted (length txn.ops) 0)

-- what is pending is committed, if anything is
abbrev pub commit_of : Option PendingValue → Turn → Plan
commit_of None turn = Agree turn
commit_of (Some pending) turn = Commit pending.place turn
