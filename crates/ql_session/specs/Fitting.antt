-- What is pending in a session fits the indexes that it is committed to.
use Rattle.std.specs.Prelude.{◌≡◌, ℕ, List, Option, None, Some, slice_get}
use Rattle.doc_types.specs.declared.transactions.Txn.{Txn}
use Rattle.doc_types.specs.Transactions.{IsTxnOf}
use Rattle.index_conf.specs.declared.conf.IndexConf.{IndexConf}
use Rattle.ql_answers.specs.Pending.{PendingValue}
use Rattle.ql_answers.specs.declared.state.State.{State}

-- The index at the place is there, and the transaction is of its columns.
pub record CanCommit (confs : List IndexConf) (place : ℕ) (txn : Txn) : Type 0 where
  pub conf : IndexConf
  pub is : slice_get confs place ≡ Some conf
  pub of : IsTxnOf conf.schema txn

-- What is pending, if anything is, can be committed.
abbrev pub FitsPending : List IndexConf → Option PendingValue → Type 0
FitsPending confs None = Unit {0}
FitsPending confs (Some pending) = CanCommit confs pending.place (record { ops = pending.ops })

-- What is pending in a session can be committed to these indexes.
abbrev pub Fits : List IndexConf → State → Type 0
Fits confs state = FitsPending confs state.pending
