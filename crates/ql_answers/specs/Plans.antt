-- What a statement wants, or why it is refused, by its text, the configuration and the session's state alone.
use Rattle.std.specs.Prelude.{◌≡◌, ◌⊎◌, ℕ, zero, suc, List, codes, true, false, Option, Some, None}
use Rattle.doc_types.specs.declared.transactions.Txn.{Txn}
use Rattle.index_conf.specs.declared.conf.IndexConf.{IndexConf}
use Rattle.ql_tree.specs.declared.statement.Statement.{Statement}
use Rattle.ql_tree.specs.declared.statement.Statement.TheVariants as statements
use Rattle.ql_select.specs.declared.selection.Selection.{Selection}
use Rattle.ql_answers.specs.declared.plan.Plan.{Plan}
use Rattle.ql_answers.specs.declared.plan.Plan.TheVariants.{Agree, Show, Search, Status, Put, Reshape}
use Rattle.ql_answers.specs.declared.plan.Counted.TheVariants.{Rows, Removed, Nothing}
use Rattle.ql_answers.specs.declared.turn.Turn.TheVariants.{Stays, Opens, Ends, Sets}
use Rattle.ql_answers.specs.Indexes.{index_fault, Serves}
use Rattle.ql_refusals.specs.Refusals.{Refused, transaction_open, value_out_of_range}
use Rattle.ql_answers.specs.declared.state.State.{State}
use Rattle.ql_answers.specs.Pending.{PendingValue}
use Rattle.ql_answers.specs.Reading.{WantsSearch, RefusesSelect}
use Rattle.ql_answers.specs.Showing.{variable, variables, current_database, databases, meta_set, warnings, tables, description}
use Rattle.ql_answers.specs.States.{is_open}
use Rattle.ql_answers.specs.Transactions.{clearing, commit_of, killing, write_fault, written}
use Rattle.ql_answers.specs.Writing.{WantsStore, RefusesStore}
use Rattle.step_history.specs.declared.job.Job.{Job}
use Rattle.step_history.specs.declared.job.Job.TheVariants.{Flush, Optimize}

-- SET AUTOCOMMIT wants this, for 0 and 1
abbrev pub autocommit_of : State → ℕ → Option Plan
autocommit_of state zero = Some (Agree (Sets false))
autocommit_of state (suc zero) = Some (commit_of state.pending (Sets true))
autocommit_of state (suc (suc value)) = None

-- A job is wanted of an index that is there, also where a transaction is open.
abbrev pub WantsJob : List IndexConf → List ℕ → Job → Plan → Type 0
WantsJob confs index job plan = (place : ℕ) × (conf : IndexConf) × Serves confs index place conf × (plan ≡ Reshape place job)

-- What a statement wants.
abbrev pub Wants : List IndexConf → State → Statement → Plan → Type 0
Wants confs state (statements.Select select) plan =
    (place : ℕ) × (selection : Selection) × WantsSearch confs select place selection × (plan ≡ Search place selection)
Wants confs state (statements.SelectVar name limit) plan = plan ≡ Show (variable name limit)
Wants confs state statements.SelectDatabase plan = plan ≡ Show current_database
Wants confs state (statements.Insert replace index columns rows) plan =
    (place : ℕ) × (txn : Txn) × WantsStore confs replace index columns rows place txn × (write_fault state place txn ≡ None) × (plan ≡ written state place txn Rows)
Wants confs state (statements.Delete index ids) plan =
    (place : ℕ) × (conf : IndexConf) × Serves confs index place conf × (write_fault state place (killing ids) ≡ None) × (plan ≡ written state place (killing ids) Removed)
Wants confs state statements.Begin plan = plan ≡ commit_of state.pending Opens
Wants confs state statements.StartTransaction plan = plan ≡ commit_of state.pending Opens
Wants confs state statements.Commit plan = plan ≡ commit_of state.pending Ends
Wants confs state statements.Rollback plan = plan ≡ Agree Ends
Wants confs state (statements.SetAutocommit value) plan = autocommit_of state value ≡ Some plan
Wants confs state (statements.SetNames names) plan = plan ≡ Agree Stays
Wants confs state (statements.SetOther scope target value) plan = plan ≡ Agree Stays
Wants confs state (statements.FlushRamchunk index) plan = WantsJob confs index Flush plan
Wants confs state (statements.FlushRtindex index) plan = WantsJob confs index Flush plan
Wants confs state (statements.OptimizeIndex index) plan = WantsJob confs index Optimize plan
Wants confs state (statements.TruncateRtindex index) plan =
    (place : ℕ) × (conf : IndexConf) × Serves confs index place conf × (is_open state ≡ false) × (plan ≡ Put place clearing Nothing)
Wants confs state (statements.Describe index) plan = (place : ℕ) × (conf : IndexConf) × Serves confs index place conf × (plan ≡ Show (description conf.schema))
Wants confs state (statements.ShowIndexStatus index) plan = (place : ℕ) × (conf : IndexConf) × Serves confs index place conf × (plan ≡ Status place)
Wants confs state statements.ShowTables plan = plan ≡ Show (tables confs)
Wants confs state statements.ShowWarnings plan = plan ≡ Show warnings
Wants confs state statements.ShowVariables plan = plan ≡ Show (variables state.autocommit)
Wants confs state statements.ShowDatabases plan = plan ≡ Show databases
Wants confs state statements.ShowMeta plan = plan ≡ Show (meta_set state.meta)

-- A DELETE is refused by its index, or by what is pending and the limits of a transaction.
abbrev pub RefusesDelete : List IndexConf → State → List ℕ → Txn → Refused → Type 0
RefusesDelete confs state index txn refusal =
    (index_fault confs index ≡ Some refusal)
    ⊎ ((place : ℕ) × (conf : IndexConf) × Serves confs index place conf × (write_fault state place txn ≡ Some refusal))

-- A TRUNCATE is refused by its index, or since a transaction is open.
abbrev pub RefusesTruncate : List IndexConf → State → List ℕ → Refused → Type 0
RefusesTruncate confs state index refusal =
    (index_fault confs index ≡ Some refusal) ⊎ ((index_fault confs index ≡ None) × (is_open state ≡ true) × (refusal ≡ transaction_open))

-- Why a statement is refused.
abbrev pub Refuses : List IndexConf → State → Statement → Refused → Type 0
Refuses confs state (statements.Select select) refusal = RefusesSelect confs select refusal
Refuses confs state (statements.SelectVar name limit) refusal = ⊥
Refuses confs state statements.SelectDatabase refusal = ⊥
Refuses confs state (statements.Insert replace index columns rows) refusal =
    RefusesStore confs index columns rows refusal
    ⊎ ((place : ℕ) × (txn : Txn) × WantsStore confs replace index columns rows place txn × (write_fault state place txn ≡ Some refusal))
Refuses confs state (statements.Delete index ids) refusal = RefusesDelete confs state index (killing ids) refusal
Refuses confs state statements.Begin refusal = ⊥
Refuses confs state statements.StartTransaction refusal = ⊥
Refuses confs state statements.Commit refusal = ⊥
Refuses confs state statements.Rollback refusal = ⊥
Refuses confs state (statements.SetAutocommit value) refusal = (autocommit_of state value ≡ None) × (refusal ≡ value_out_of_range (codes "autocommit"))
Refuses confs state (statements.SetNames names) refusal = ⊥
Refuses confs state (statements.SetOther scope target value) refusal = ⊥
Refuses confs state (statements.FlushRamchunk index) refusal = index_fault confs index ≡ Some refusal
Refuses confs state (statements.FlushRtindex index) refusal = index_fault confs index ≡ Some refusal
Refuses confs state (statements.OptimizeIndex index) refusal = index_fault confs index ≡ Some refusal
Refuses confs state (statements.TruncateRtindex index) refusal = RefusesTruncate confs state index refusal
Refuses confs state (statements.Describe index) refusal = index_fault confs index ≡ Some refusal
Refuses confs state (statements.ShowIndexStatus index) refusal = index_fault confs index ≡ Some refusal
Refuses confs state statements.ShowMeta refusal = ⊥
Refuses confs state statements.ShowTables refusal = ⊥
Refuses confs state statements.ShowWarnings refusal = ⊥
Refuses confs state statements.ShowVariables refusal = ⊥
Refuses confs state statements.ShowDatabases refusal = ⊥

-- Something is pending.
abbrev pub HasPending : Option PendingValue → Type 0
HasPending None = ⊥
HasPending (Some pending) = Unit {0}

-- Memory is wanted to find out what the statement wants, or to do it: for each that reads, writes or has a job done, and where an open
-- transaction is committed.
abbrev pub TakesMemory : State → Statement → Type 0
TakesMemory state statements.Begin = HasPending state.pending
TakesMemory state statements.StartTransaction = HasPending state.pending
TakesMemory state statements.Commit = HasPending state.pending
TakesMemory state statements.Rollback = ⊥
TakesMemory state (statements.SetAutocommit value) = HasPending state.pending
TakesMemory state (statements.SetNames names) = ⊥
TakesMemory state (statements.SetOther scope target value) = ⊥
TakesMemory state statement = Unit {0}
