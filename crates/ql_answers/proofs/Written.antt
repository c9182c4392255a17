-- What a statement that writes wants, by what its operations may be.
use Rattle.std.proofs.Common.{◌≡◌, ℕ, List, Bool, Option, inr, subst}
use Rattle.std.specs.Prelude.{Result, Ok, Err}
use Rattle.srch_base.specs.declared.faults.Or.{Or}
use Rattle.srch_base.specs.declared.faults.Or.TheVariants as causes
use Rattle.doc_types.specs.declared.transactions.Txn.{Txn}
use Rattle.index_conf.specs.declared.conf.IndexConf.{IndexConf}
use Rattle.ql_tree.specs.declared.statement.Ids.{Ids}
use Rattle.ql_tree.specs.declared.statement.Val.{Val}
use Rattle.ql_refusals.specs.Refusals.{Refused}
use Rattle.ql_insert.specs.Insertions.{Makes}
use Rattle.ql_answers.specs.declared.plan.Counted.TheVariants.{Removed, Rows}
use Rattle.ql_answers.specs.declared.plan.Plan.{Plan}
use Rattle.ql_answers.specs.declared.state.State.{State}
use Rattle.ql_answers.specs.Indexes.{Serves}
use Rattle.ql_answers.specs.Transactions.{killing, stored}
use Rattle.ql_answers.specs.Writing.{WantsStore}
use Rattle.ql_answers.specs.steps.Planning.{PlansDelete, PlansInsert, Writes}

pub deletes : (confs : List IndexConf) (state : State) (name : List ℕ) (ids : Ids) (place : ℕ) (conf : IndexConf) (txn : Txn) (result : Result Plan (Or Refused))
    → Serves confs name place conf → txn ≡ killing ids → Writes state place txn Removed result → PlansDelete confs state name ids result
deletes confs state name ids place conf txn result serves is writes = by result (subst (λ (t : Txn). Writes state place t Removed result) is writes)
  where
    by : (result : Result Plan (Or Refused)) → Writes state place (killing ids) Removed result → PlansDelete confs state name ids result
    by (Ok plan) written = (place, conf, serves, written.0, written.1)
    by (Err causes.NoMemory) never = absurd never
    by (Err (causes.Fault refusal)) fault = inr (place, conf, serves, fault)

pub inserts : (confs : List IndexConf) (state : State) (replace : Bool) (name : List ℕ) (columns : Option (List (List ℕ))) (rows : List (List Val)) (place : ℕ) (conf : IndexConf) (inserted txn : Txn)
    (result : Result Plan (Or Refused)) → Serves confs name place conf → Makes conf columns rows inserted → txn ≡ stored replace inserted → Writes state place txn Rows result
    → PlansInsert confs state replace name columns rows result
inserts confs state replace name columns rows place conf inserted txn result serves makes is writes = by result writes
  where
    wants : WantsStore confs replace name columns rows place txn
    wants = record { conf = conf; serves = serves; inserted = inserted; makes = makes; is = is }

    by : (result : Result Plan (Or Refused)) → Writes state place txn Rows result → PlansInsert confs state replace name columns rows result
    by (Ok plan) written = (place, txn, wants, written.0, written.1)
    by (Err causes.NoMemory) never = absurd never
    by (Err (causes.Fault refusal)) fault = inr (place, txn, wants, fault)
