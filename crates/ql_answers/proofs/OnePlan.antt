-- A statement wants one thing or is refused for one reason, and never both: by cases on the statement, since a SELECT and an
-- INSERT are read in one way.
use Rattle.std.proofs.Common.{◌≡◌, ℕ, List, Option, Some, sym, ap, ◌∙◌}
use Rattle.index_conf.specs.declared.conf.IndexConf.{IndexConf}
use Rattle.doc_types.specs.declared.transactions.Txn.{Txn}
use Rattle.ql_tree.specs.declared.select.Select.{Select}
use Rattle.ql_tree.specs.declared.statement.Statement.{Statement}
use Rattle.ql_tree.specs.declared.statement.Val.{Val}
use Rattle.ql_tree.specs.declared.statement.Statement.TheVariants as statements
use Rattle.ql_refusals.specs.Refusals.{Refused}
use Rattle.ql_refusals.proofs.Options.{not_both, one_value}
use Rattle.ql_insert.specs.Insertions.{Makes, RefusesValues}
use Rattle.ql_select.specs.declared.selection.Selection.{Selection}
use Rattle.ql_select.specs.Selections.{RefusesSelection, Selects}
use Rattle.ql_answers.specs.declared.plan.Plan.{Plan}
use Rattle.ql_answers.specs.declared.plan.Plan.TheVariants.{Reshape, Search, Show, Status}
use Rattle.ql_answers.specs.declared.state.State.{State}
use Rattle.ql_answers.specs.Indexes.{index_fault}
use Rattle.ql_answers.specs.Plans.{Refuses, Wants, WantsJob, autocommit_of}
use Rattle.ql_answers.specs.Showing.{description}
use Rattle.ql_answers.specs.Transactions.{killing}
use Rattle.step_history.specs.declared.job.Job.{Job}
use Rattle.step_history.specs.declared.job.Job.TheVariants.{Flush, Optimize}
use Rattle.ql_answers.proofs.OneSearch.{not_searched, one_refused_select, one_search}
use Rattle.ql_answers.proofs.OneServed.{not_served, one_conf, one_place}
use Rattle.ql_answers.proofs.OneWrite.{not_deleted, not_stored, not_truncated, one_delete, one_refused_delete, one_refused_store, one_refused_truncate, one_store, one_truncate}

-- a job is wanted of one index
one_job : (confs : List IndexConf) (index : List ℕ) (job : Job) (a b : Plan) → WantsJob confs index job a → WantsJob confs index job b → a ≡ b
one_job confs index job a b (p, conf, serves, is) (q, other, serves', is') =
    is ∙ ap (λ (place : ℕ). Reshape place job) (one_place confs index p q conf other serves serves') ∙ sym is'

no_job : (confs : List IndexConf) (index : List ℕ) (job : Job) (plan : Plan) (refusal : Refused) → WantsJob confs index job plan → index_fault confs index ≡ Some refusal → ⊥
no_job confs index job plan refusal (place, conf, serves, is) fault = not_served confs index place conf refusal serves fault

module _
    (one_selection : (conf : IndexConf) (select : Select) (a b : Selection) → Selects conf select a → Selects conf select b → a ≡ b)
    (one_selection_fault : (conf : IndexConf) (select : Select) (a b : Refused) → RefusesSelection conf select a → RefusesSelection conf select b → a ≡ b)
    (not_refused_selection : (conf : IndexConf) (select : Select) (selection : Selection) (refusal : Refused) → Selects conf select selection → RefusesSelection conf select refusal → ⊥)
    (one_txn : (conf : IndexConf) (columns : Option (List (List ℕ))) (rows : List (List Val)) (a b : Txn) → Makes conf columns rows a → Makes conf columns rows b → a ≡ b)
    (one_values_fault : (conf : IndexConf) (columns : Option (List (List ℕ))) (rows : List (List Val)) (a b : Refused) → RefusesValues conf columns rows a → RefusesValues conf columns rows b → a ≡ b)
    (not_refused_values : (conf : IndexConf) (columns : Option (List (List ℕ))) (rows : List (List Val)) (txn : Txn) (refusal : Refused) → Makes conf columns rows txn → RefusesValues conf columns rows refusal → ⊥) where
  pub one_plan : (confs : List IndexConf) (state : State) (statement : Statement) (a b : Plan) → Wants confs state statement a → Wants confs state statement b → a ≡ b
  one_plan confs state (statements.Select select) a b (p, selection, wants, is) (q, other, wants', is') =
      let same = one_search one_selection one_selection_fault not_refused_selection confs select p q selection other wants wants' in
      is ∙ (ap (λ (place : ℕ). Search place selection) same.0 ∙ ap (λ (s : Selection). Search q s) same.1) ∙ sym is'
  one_plan confs state (statements.SelectVar name limit) a b is is' = is ∙ sym is'
  one_plan confs state statements.SelectDatabase a b is is' = is ∙ sym is'
  one_plan confs state (statements.Insert replace index columns rows) a b wants wants' = one_store one_txn one_values_fault not_refused_values confs state replace index columns rows a b wants wants'
  one_plan confs state (statements.Delete index ids) a b wants wants' = one_delete confs state index ids a b wants wants'
  one_plan confs state statements.Begin a b is is' = is ∙ sym is'
  one_plan confs state statements.StartTransaction a b is is' = is ∙ sym is'
  one_plan confs state statements.Commit a b is is' = is ∙ sym is'
  one_plan confs state statements.Rollback a b is is' = is ∙ sym is'
  one_plan confs state (statements.SetAutocommit value) a b is is' = one_value (autocommit_of state value) a b is is'
  one_plan confs state (statements.SetNames names) a b is is' = is ∙ sym is'
  one_plan confs state (statements.SetOther scope target value) a b is is' = is ∙ sym is'
  one_plan confs state (statements.FlushRamchunk index) a b wants wants' = one_job confs index Flush a b wants wants'
  one_plan confs state (statements.FlushRtindex index) a b wants wants' = one_job confs index Flush a b wants wants'
  one_plan confs state (statements.OptimizeIndex index) a b wants wants' = one_job confs index Optimize a b wants wants'
  one_plan confs state (statements.TruncateRtindex index) a b wants wants' = one_truncate confs state index a b wants wants'
  one_plan confs state (statements.Describe index) a b (p, conf, serves, is) (q, other, serves', is') =
      is ∙ ap (λ (c : IndexConf). Show (description c.schema)) (one_conf confs index p q conf other serves serves') ∙ sym is'
  one_plan confs state (statements.ShowIndexStatus index) a b (p, conf, serves, is) (q, other, serves', is') =
      is ∙ ap Status (one_place confs index p q conf other serves serves') ∙ sym is'
  one_plan confs state statements.ShowTables a b is is' = is ∙ sym is'
  one_plan confs state statements.ShowWarnings a b is is' = is ∙ sym is'
  one_plan confs state statements.ShowVariables a b is is' = is ∙ sym is'
  one_plan confs state statements.ShowDatabases a b is is' = is ∙ sym is'
  one_plan confs state statements.ShowMeta a b is is' = is ∙ sym is'

  pub one_refusal : (confs : List IndexConf) (state : State) (statement : Statement) (a b : Refused) → Refuses confs state statement a → Refuses confs state statement b → a ≡ b
  one_refusal confs state (statements.Select select) a b refuses refuses' = one_refused_select one_selection one_selection_fault not_refused_selection confs select a b refuses refuses'
  one_refusal confs state (statements.Insert replace index columns rows) a b refuses refuses' = one_refused_store one_txn one_values_fault not_refused_values confs state replace index columns rows a b refuses refuses'
  one_refusal confs state (statements.Delete index ids) a b refuses refuses' = one_refused_delete confs state index (killing ids) a b refuses refuses'
  one_refusal confs state (statements.SetAutocommit value) a b (other, says) (other', says') = says ∙ sym says'
  one_refusal confs state (statements.TruncateRtindex index) a b refuses refuses' = one_refused_truncate confs state index a b refuses refuses'
  one_refusal confs state (statements.Describe index) a b fault fault' = one_value (index_fault confs index) a b fault fault'
  one_refusal confs state (statements.ShowIndexStatus index) a b fault fault' = one_value (index_fault confs index) a b fault fault'
  one_refusal confs state (statements.FlushRamchunk index) a b fault fault' = one_value (index_fault confs index) a b fault fault'
  one_refusal confs state (statements.FlushRtindex index) a b fault fault' = one_value (index_fault confs index) a b fault fault'
  one_refusal confs state (statements.OptimizeIndex index) a b fault fault' = one_value (index_fault confs index) a b fault fault'
  one_refusal confs state statement a b refuses refuses' = absurd refuses

  pub never_both : (confs : List IndexConf) (state : State) (statement : Statement) (plan : Plan) (refusal : Refused) → Wants confs state statement plan → Refuses confs state statement refusal → ⊥
  never_both confs state (statements.Select select) plan refusal (place, selection, wants, is) refuses = not_searched one_selection one_selection_fault not_refused_selection confs select place selection refusal wants refuses
  never_both confs state (statements.Insert replace index columns rows) plan refusal wants refuses = not_stored one_txn one_values_fault not_refused_values confs state replace index columns rows plan refusal wants refuses
  never_both confs state (statements.Delete index ids) plan refusal wants refuses = not_deleted confs state index ids plan refusal wants refuses
  never_both confs state (statements.SetAutocommit value) plan refusal wants (other, says) = not_both (autocommit_of state value) plan other wants
  never_both confs state (statements.TruncateRtindex index) plan refusal wants refuses = not_truncated confs state index plan refusal wants refuses
  never_both confs state (statements.Describe index) plan refusal (place, conf, serves, is) fault = not_served confs index place conf refusal serves fault
  never_both confs state (statements.ShowIndexStatus index) plan refusal (place, conf, serves, is) fault = not_served confs index place conf refusal serves fault
  never_both confs state (statements.FlushRamchunk index) plan refusal wants fault = no_job confs index Flush plan refusal wants fault
  never_both confs state (statements.FlushRtindex index) plan refusal wants fault = no_job confs index Flush plan refusal wants fault
  never_both confs state (statements.OptimizeIndex index) plan refusal wants fault = no_job confs index Optimize plan refusal wants fault
  never_both confs state statement plan refusal wants refuses = refuses
