-- What holds of a plan that some statement wants.
use Rattle.std.specs.Prelude.{◌≡◌, List, None, Some, slice_get}
use Rattle.doc_types.specs.Schemas.{IsSchema}
use Rattle.index_conf.specs.declared.conf.IndexConf.{IndexConf}
use Rattle.ql_answers.specs.Pending.{PendingValue}
use Rattle.ql_answers.specs.Searches.{IsReadOf}
use Rattle.ql_answers.specs.Transactions.{write_fault}
use Rattle.ql_answers.specs.declared.plan.Plan.{Plan}
use Rattle.ql_answers.specs.declared.plan.Plan.TheVariants.{Search, Status, Keep, Put, Commit, Reshape}
use Rattle.ql_answers.specs.declared.state.State.{State}
use Rattle.ql_session.specs.Fitting.{CanCommit}

-- What the plan wants of an index can be had: the index is there, the question is about its columns, and so are the operations.
abbrev pub IsSoundPlan : List IndexConf → State → Plan → Type 0
IsSoundPlan confs state (Search place selection) =
    (conf : IndexConf) × (slice_get confs place ≡ Some conf) × (IsSchema conf.schema → IsReadOf conf.schema selection.asked.question)
IsSoundPlan confs state (Status place) = (conf : IndexConf) × (slice_get confs place ≡ Some conf)
IsSoundPlan confs state (Keep place txn affected) = CanCommit confs place txn × (write_fault state place txn ≡ None)
IsSoundPlan confs state (Put place txn counted) = CanCommit confs place txn
IsSoundPlan confs state (Commit place turn) = (pending : PendingValue) × (state.pending ≡ Some pending) × (place ≡ pending.place)
IsSoundPlan confs state (Reshape place job) = (conf : IndexConf) × (slice_get confs place ≡ Some conf)
IsSoundPlan confs state plan = Unit {0}
