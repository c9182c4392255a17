-- Sessions: what is kept between statements, and what is replied to one by what the outside did.
use Rattle.std.specs.Prelude.{◌≡◌, ◌≢◌, ◌⊎◌, ℕ, List, All, Result, Ok, Err, length, Bool, true, false, Option, Some, None}
use Rattle.std.specs.FinMap as finite
use Rattle.std.specs.List.{count_by}
use Rattle.doc_types.specs.declared.documents.DocRow.{DocRow}
use Rattle.doc_types.specs.declared.schema.Schema.{Schema}
use Rattle.doc_types.specs.declared.transactions.Txn.{Txn}
use Rattle.doc_types.specs.Documents.{AreRowsOf}
use Rattle.doc_types.specs.Snapshots.{AreLayers, SnapshotValue, all_living, live}
use Rattle.commit_outcomes.specs.declared.outcome.CommitOutcome.{CommitOutcome}
use Rattle.commit_outcomes.specs.declared.outcome.CommitOutcome.TheVariants as outcomes
use Rattle.commit_outcomes.specs.declared.outcome.Doubt.TheVariants as doubts
use Rattle.srch_base.specs.declared.faults.Or.{Or}
use Rattle.srch_base.specs.declared.faults.Or.TheVariants as causes
use Rattle.index_conf.specs.declared.conf.IndexConf.{IndexConf}
use Rattle.ql_tree.specs.declared.statement.Statement.{Statement}
use Rattle.ql_answers.specs.declared.event.Need.{Need}
use Rattle.ql_answers.specs.declared.event.Need.TheVariants as needs
use Rattle.ql_answers.specs.declared.event.Event.{Event}
use Rattle.ql_answers.specs.declared.event.Event.TheVariants as events
use Rattle.ql_answers.specs.declared.job_outcome.JobOutcome.{JobOutcome}
use Rattle.ql_answers.specs.declared.job_outcome.JobOutcome.TheVariants as job_outcomes
use Rattle.ql_answers.specs.declared.plan.Plan.{Plan}
use Rattle.ql_answers.specs.declared.plan.Counted.{Counted}
use Rattle.ql_answers.specs.declared.plan.Counted.TheVariants as counting
use Rattle.ql_answers.specs.declared.plan.Plan.TheVariants.{Agree, Show, Search, Status, Keep, Put, Commit, Reshape}
use Rattle.ql_answers.specs.Plans.{Wants, Refuses, TakesMemory}
use Rattle.ql_refusals.specs.Refusals.{Refused, disk_failed, disk_in_doubt, duplicate_id, index_full, job_in_doubt, memory_in_doubt, no_memory, overtaken, rank_out_of_range, strayed, too_many_prefix_words}
use Rattle.doc_search.specs.declared.question.Question.{Question}
use Rattle.prefix_search.specs.Searches.{AreTooMany, IsFirstLacking, IsReadOf}
use Rattle.ql_select.specs.declared.selection.Selection.{Selection}
use Rattle.table_search.specs.Tables.{AreTables}
use Rattle.table_search.specs.declared.found.Found.{Found}
use Rattle.ql_answers.specs.Metas.{meta_of}
use Rattle.ql_answers.specs.declared.meta.Meta.{Meta}
use Rattle.ql_answers.specs.Reading.{found_sets}
use Rattle.ql_answers.specs.declared.state.State.{State}
use Rattle.ql_answers.specs.Showing.{index_status}
use Rattle.ql_answers.specs.States.{finished, kept, pending_txn, status_of, telling, turned}
use Rattle.ql_answers.specs.Transactions.{affected}
use Rattle.reply_rows.specs.Written.{Written}
use Rattle.ql_answers.specs.Replies.{Reply, Done, Shows, Finds, Fails, replied}

-- A session, with what the statement that it is at wants, from `need` to `reply`.
pub record Standing : Type 0 where
  pub state : State
  pub plan : Option Plan

-- the session between two statements
abbrev pub at_rest : State → Standing
at_rest state = record { state = state; plan = None }

-- the session at a statement that wants this
abbrev pub at_plan : State → Plan → Standing
at_plan state plan = record { state = state; plan = Some plan }

-- what a plan wants of the outside
abbrev pub need_of : Plan → Need
need_of (Agree turn) = needs.Nothing
need_of (Show set) = needs.Nothing
need_of (Search place selection) = needs.Read place
need_of (Status place) = needs.Read place
need_of (Keep place txn affected) = needs.Nothing
need_of (Put place txn counted) = needs.Commit place
need_of (Commit place turn) = needs.Commit place
need_of (Reshape place job) = needs.Reshape place job

-- the transaction that a plan wants to be committed
abbrev pub pending_of : State → Plan → Option Txn
pending_of state (Put place txn counted) = Some txn
pending_of state (Commit place turn) = pending_txn state.pending
pending_of state plan = None

-- What the outside did, by what it was asked for.
pub data Happened : Type 0 where
  Nothing : Happened
  NoMemory : Happened
  Read : (front : SnapshotValue) → Happened
  Committing : (outcome : CommitOutcome) → Happened
  Reshaping : (outcome : JobOutcome) → Happened

-- The documents, where they were read, have layers as a snapshot has them: no id lives twice.
abbrev pub HasLayers : Happened → Type 0
HasLayers (Read front) = AreLayers front.layers
HasLayers happened = Unit {0}

-- how many chunks are on the disk
abbrev pub disk_count : SnapshotValue → ℕ
disk_count front = count_by (λ layer. layer.disk) front.layers

-- Layers are alike to a plan: SHOW INDEX STATUS alone sees of them how many are on the disk.
abbrev pub LookAlike : Plan → SnapshotValue → SnapshotValue → Type 0
LookAlike (Status place) front other = disk_count front ≡ disk_count other
LookAlike plan front other = Unit {0}

-- The same happened to a plan, as far as a client can see: the same documents were read, whatever layers hold them, or a commit
-- or a job had the same outcome.
abbrev pub AreAlike : Plan → Happened → Happened → Type 0
AreAlike plan Nothing Nothing = Unit {0}
AreAlike plan NoMemory NoMemory = Unit {0}
AreAlike plan (Read front) (Read other) = AreLayers front.layers × AreLayers other.layers × (live front ≡ live other) × LookAlike plan front other
AreAlike plan (Committing outcome) (Committing other) = outcome ≡ other
AreAlike plan (Reshaping outcome) (Reshaping other) = outcome ≡ other
AreAlike plan happened other = ⊥

-- what a call learns of it
abbrev pub happened_by : {C : Type 0} → Event C → Happened
happened_by events.Nothing = Nothing
happened_by events.NoMemory = NoMemory
happened_by (events.Read front) = Read front.now
happened_by (events.Commit outcome) = Committing outcome
happened_by (events.Reshape outcome) = Reshaping outcome

-- The question is asked of the index whose rows these are.
abbrev pub CanSearch : Question → SnapshotValue → Type 0
CanSearch question front = (schema : Schema) × IsReadOf schema question × All (λ layer. AreRowsOf schema layer.rows) front.layers

-- what is replied to a commit for which a text has so many rows
abbrev pub reply_to_commit : Counted → ℕ → CommitOutcome → Reply
reply_to_commit counted rows (outcomes.Committed removed) = Done (affected counted rows removed)
reply_to_commit counted rows (outcomes.Duplicate id) = Fails (duplicate_id id)
reply_to_commit counted rows (outcomes.Full full) = Fails (index_full full)
reply_to_commit counted rows outcomes.Refused = Fails disk_failed
reply_to_commit counted rows (outcomes.InDoubt doubts.Disk) = Fails disk_in_doubt
reply_to_commit counted rows (outcomes.InDoubt doubts.Memory) = Fails memory_in_doubt
reply_to_commit counted rows (outcomes.Strayed numbers) = Fails (strayed numbers)

-- what is replied to a job
abbrev pub reply_to_job : JobOutcome → Reply
reply_to_job job_outcomes.Shaped = Done 0
reply_to_job (job_outcomes.Overtaken shape) = Fails (overtaken shape)
reply_to_job (job_outcomes.Full full) = Fails (index_full full)
reply_to_job job_outcomes.Refused = Fails disk_failed
reply_to_job job_outcomes.InDoubt = Fails job_in_doubt
reply_to_job (job_outcomes.Strayed numbers) = Fails (strayed numbers)

-- What is replied to a SELECT by the documents: what it finds; or, on whatever page that is, the first document that it finds without a
-- weight; or, before both, how many words the prefixes of its query have, where these are too many.
abbrev pub DecidesSearch : Selection → List DocRow → Reply → Type 0
DecidesSearch selection docs reply =
    ((found : Found) × AreTables selection.asked docs found × (reply ≡ Finds (found_sets selection found) (meta_of selection.asked found docs)))
    ⊎ (((id : ℕ) × IsFirstLacking selection.asked.question docs id × (reply ≡ Fails (rank_out_of_range id)))
    ⊎ ((count : ℕ) × AreTooMany selection.asked.question.query docs count × (reply ≡ Fails (too_many_prefix_words count))))

-- What is replied to a plan by what happened.
abbrev pub Decides : Plan → Happened → Reply → Type 0
Decides plan NoMemory reply = reply ≡ Fails no_memory
Decides (Agree turn) Nothing reply = reply ≡ Done 0
Decides (Show set) Nothing reply = reply ≡ Shows set
Decides (Search place selection) (Read front) reply = DecidesSearch selection (all_living front.layers) reply
Decides (Status place) (Read front) reply = reply ≡ Shows (index_status (finite.len (live front)) (disk_count front))
Decides (Keep place txn affected) Nothing reply = reply ≡ Done affected
Decides (Put place txn counted) (Committing outcome) reply = reply ≡ reply_to_commit counted (length txn.ops) outcome
Decides (Commit place turn) (Committing outcome) reply = reply ≡ reply_to_commit counting.Nothing 0 outcome
Decides (Reshape place job) (Reshaping outcome) reply = reply ≡ reply_to_job outcome
Decides plan happened reply = ⊥

-- what becomes of the transaction after a plan, by what happened
abbrev pub after_plan : Plan → Happened → State → State
after_plan (Agree turn) Nothing state = turned turn state
after_plan (Keep place txn affected) Nothing state = kept place txn.ops state
after_plan (Commit place turn) (Committing outcome) state = finished turn outcome state
after_plan plan happened state = state

-- what SHOW META tells anew by a reply
abbrev pub told_by : Reply → Option Meta
told_by (Finds sets meta) = Some meta
told_by reply = None

-- what a session is after a plan, by what happened and what was replied
abbrev pub next_of : Plan → Happened → Reply → State → State
next_of plan happened reply state = telling (told_by reply) (after_plan plan happened state)

-- This can happen to a plan.
abbrev pub CanHave : Plan → Happened → Type 0
CanHave plan NoMemory = Unit {0}
CanHave (Agree turn) Nothing = Unit {0}
CanHave (Show set) Nothing = Unit {0}
CanHave (Search place selection) (Read front) = CanSearch selection.asked.question front
CanHave (Status place) (Read front) = Unit {0}
CanHave (Keep place txn affected) Nothing = Unit {0}
CanHave (Put place txn counted) (Committing outcome) = Unit {0}
CanHave (Commit place turn) (Committing outcome) = Unit {0}
CanHave (Reshape place job) (Reshaping outcome) = Unit {0}
CanHave plan happened = ⊥

-- the reply is a result set, for which memory may be refused
abbrev pub shows_rows : Plan → Bool
shows_rows (Show set) = true
shows_rows (Search place selection) = true
shows_rows (Status place) = true
shows_rows plan = false

-- memory may be refused to the reply to a plan, or to what is kept before it
abbrev pub reply_takes_memory : Plan → Bool
reply_takes_memory (Keep place txn affected) = true
reply_takes_memory plan = shows_rows plan

-- What `need` answers, and what the session is then.
abbrev pub Needs : List IndexConf → Standing → Statement → Result Need (Or Refused) → Standing → Type 0
Needs confs old statement (Ok need) new =
    (plan : Plan) × Wants confs old.state statement plan × (need ≡ need_of plan) × (new ≡ at_plan old.state plan)
Needs confs old statement (Err causes.NoMemory) new = TakesMemory old.state statement × (new ≡ at_rest old.state)
Needs confs old statement (Err (causes.Fault refusal)) new = Refuses confs old.state statement refusal × (new ≡ at_rest old.state)

-- What `reply` answers, what is written then, and what the session is. The status of the packets is that of the session afterwards.
-- Memory is refused to result sets and to operations that are pending from then on, and not to what says that memory was refused.
abbrev pub Replied : {T E : Type 0} → Standing → Happened → Bool → Result T E → Written → Written → Standing → Type 0
Replied old happened more (Ok done) before after new =
    (plan : Plan) × (reply : Reply) × (old.plan ≡ Some plan) × Decides plan happened reply × (after ≡ replied before (status_of new.state more) reply)
    × (new ≡ at_rest (next_of plan happened reply old.state))
Replied old happened more (Err e) before after new =
    (plan : Plan) × (old.plan ≡ Some plan) × (reply_takes_memory plan ≡ true) × (happened ≢ NoMemory) × (after ≡ before) × (new ≡ old)
