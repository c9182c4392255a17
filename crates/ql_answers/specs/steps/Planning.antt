-- What the functions answer that find out what a statement wants.
use Rattle.std.specs.Prelude.{◌≡◌, ℕ, List, Bool, Some, None, Option, Result, Ok, Err}
use Rattle.srch_base.specs.declared.faults.Or.{Or}
use Rattle.srch_base.specs.declared.faults.Or.TheVariants as causes
use Rattle.doc_types.specs.declared.transactions.Txn.{Txn}
use Rattle.index_conf.specs.declared.conf.IndexConf.{IndexConf}
use Rattle.ql_tree.specs.declared.select.Select.{Select}
use Rattle.ql_tree.specs.declared.statement.Ids.{Ids}
use Rattle.ql_tree.specs.declared.statement.Statement.{Statement}
use Rattle.ql_tree.specs.declared.statement.Statement.TheVariants as statements
use Rattle.ql_tree.specs.declared.statement.Val.{Val}
use Rattle.ql_select.specs.declared.selection.Selection.{Selection}
use Rattle.ql_answers.specs.declared.plan.Counted.{Counted}
use Rattle.ql_answers.specs.declared.plan.Plan.{Plan}
use Rattle.ql_answers.specs.declared.plan.Plan.TheVariants.{Show, Search, Status}
use Rattle.step_history.specs.declared.job.Job.{Job}
use Rattle.ql_answers.specs.declared.state.State.{State}
use Rattle.reply_rows.specs.declared.result_set.ResultSet.{ResultSet}
use Rattle.ql_answers.specs.Indexes.{index_fault, Serves}
use Rattle.ql_refusals.specs.Refusals.{Refused}
use Rattle.ql_answers.specs.Reading.{WantsSearch, RefusesSelect}
use Rattle.ql_answers.specs.Showing.{description}
use Rattle.ql_answers.specs.Transactions.{write_fault, written}
use Rattle.ql_answers.specs.Plans.{Wants, WantsJob, Refuses, TakesMemory}

abbrev pub Planned : List IndexConf → State → Statement → Result Plan (Or Refused) → Type 0
Planned confs state statement (Ok plan) = Wants confs state statement plan
Planned confs state statement (Err causes.NoMemory) = TakesMemory state statement
Planned confs state statement (Err (causes.Fault refusal)) = Refuses confs state statement refusal

abbrev pub PlansSelect : List IndexConf → Select → Result Plan (Or Refused) → Type 0
PlansSelect confs select (Ok plan) = (place : ℕ) × (selection : Selection) × WantsSearch confs select place selection × (plan ≡ Search place selection)
PlansSelect confs select (Err causes.NoMemory) = Unit {0}
PlansSelect confs select (Err (causes.Fault refusal)) = RefusesSelect confs select refusal

-- the statements that write answer as they are planned
abbrev pub PlansInsert : List IndexConf → State → Bool → List ℕ → Option (List (List ℕ)) → List (List Val) → Result Plan (Or Refused) → Type 0
PlansInsert confs state replace index columns rows result = Planned confs state (statements.Insert replace index columns rows) result

abbrev pub PlansDelete : List IndexConf → State → List ℕ → Ids → Result Plan (Or Refused) → Type 0
PlansDelete confs state index ids result = Planned confs state (statements.Delete index ids) result

abbrev pub PlansTruncate : List IndexConf → State → List ℕ → Result Plan (Or Refused) → Type 0
PlansTruncate confs state index result = Planned confs state (statements.TruncateRtindex index) result

-- operations are written, or what is pending or a limit forbids that
abbrev pub Writes : State → ℕ → Txn → Counted → Result Plan (Or Refused) → Type 0
Writes state place txn counted (Ok plan) = (write_fault state place txn ≡ None) × (plan ≡ written state place txn counted)
Writes state place txn counted (Err causes.NoMemory) = ⊥
Writes state place txn counted (Err (causes.Fault refusal)) = write_fault state place txn ≡ Some refusal

abbrev pub PlansAutocommit : State → ℕ → Result Plan (Or Refused) → Type 0
PlansAutocommit state value result = (confs : List IndexConf) → Planned confs state (statements.SetAutocommit value) result

abbrev pub PlansDescribe : List IndexConf → List ℕ → Result Plan (Or Refused) → Type 0
PlansDescribe confs index (Ok plan) = (place : ℕ) × (conf : IndexConf) × Serves confs index place conf × (plan ≡ Show (description conf.schema))
PlansDescribe confs index (Err causes.NoMemory) = Unit {0}
PlansDescribe confs index (Err (causes.Fault refusal)) = index_fault confs index ≡ Some refusal

abbrev pub PlansStatus : List IndexConf → List ℕ → Result Plan (Or Refused) → Type 0
PlansStatus confs index (Ok plan) = (place : ℕ) × (conf : IndexConf) × Serves confs index place conf × (plan ≡ Status place)
PlansStatus confs index (Err causes.NoMemory) = ⊥
PlansStatus confs index (Err (causes.Fault refusal)) = index_fault confs index ≡ Some refusal

abbrev pub PlansJob : List IndexConf → List ℕ → Job → Result Plan (Or Refused) → Type 0
PlansJob confs index job (Ok plan) = WantsJob confs index job plan
PlansJob confs index job (Err causes.NoMemory) = ⊥
PlansJob confs index job (Err (causes.Fault refusal)) = index_fault confs index ≡ Some refusal

abbrev pub ShowsOr : {E : Type 0} → Result ResultSet E → Result Plan (Or Refused) → Type 0
ShowsOr (Ok set) result = result ≡ Ok (Show set)
ShowsOr (Err e) result = result ≡ Err causes.NoMemory
