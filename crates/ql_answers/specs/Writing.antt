-- INSERT and REPLACE: the transaction that their rows become, and why they are refused before any transaction is looked at. "INSERT
-- and REPLACE syntax" of the manual.
use Rattle.std.specs.Prelude.{◌≡◌, ◌⊎◌, ℕ, List, Bool, Option, Some}
use Rattle.doc_types.specs.declared.transactions.Txn.{Txn}
use Rattle.index_conf.specs.declared.conf.IndexConf.{IndexConf}
use Rattle.ql_tree.specs.declared.statement.Val.{Val}
use Rattle.ql_refusals.specs.Refusals.{Refused}
use Rattle.ql_insert.specs.Insertions.{Makes, RefusesValues}
use Rattle.ql_answers.specs.Indexes.{index_fault, Serves}
use Rattle.ql_answers.specs.Transactions.{stored}

-- The rows of an INSERT, or of a REPLACE, become this transaction of the index at this place.
pub record WantsStore (confs : List IndexConf) (replace : Bool) (index : List ℕ) (columns : Option (List (List ℕ))) (rows : List (List Val)) (place : ℕ) (txn : Txn) : Type 0 where
  pub conf : IndexConf
  pub serves : Serves confs index place conf
  pub inserted : Txn
  pub makes : Makes conf columns rows inserted
  pub is : txn ≡ stored replace inserted

-- They are refused by their index, or by their values.
abbrev pub RefusesStore : List IndexConf → List ℕ → Option (List (List ℕ)) → List (List Val) → Refused → Type 0
RefusesStore confs index columns rows refusal =
    (index_fault confs index ≡ Some refusal)
    ⊎ ((place : ℕ) × (conf : IndexConf) × Serves confs index place conf × RefusesValues conf columns rows refusal)
