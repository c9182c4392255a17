-- Outcomes: what an engine's answer to a commit, or to a job, is to a session.
use Rattle.std.specs.Prelude.{◌≡◌, ◌⊎◌, ◌+◌, ◌<◌, ℕ, List, [], ◌∷◌, ◌++◌, Option, Some, None, Result, Ok, Err}
use mathlib.Core.List.{IsPrefix}
use Rattle.srch_base.specs.declared.faults.NoMemory.{NoMemory}
use Rattle.commit_outcomes.specs.declared.outcome.Doubt.TheVariants as doubts
use Rattle.commit_outcomes.specs.declared.outcome.CommitOutcome.{CommitOutcome}
use Rattle.commit_outcomes.specs.declared.outcome.CommitOutcome.TheVariants as outcomes
use Rattle.commit_outcomes.specs.declared.outcome.FullKind.TheVariants.{Root}
use Rattle.commit_outcomes.specs.declared.strayed.Strayed.{Strayed as Numbers}
use Rattle.doc_types.specs.Commits.{Duplicate, verdict}
use Rattle.doc_types.specs.Snapshots.{SnapshotValue, live}
use Rattle.doc_types.specs.declared.schema.Schema.{Schema}
use Rattle.doc_types.specs.declared.transactions.TxnOp.{TxnOp}
use Rattle.job_chunks.specs.Limits.{HasRoom, Passes}
use Rattle.ql_answers.specs.declared.job_outcome.JobOutcome.{JobOutcome}
use Rattle.ql_answers.specs.declared.job_outcome.JobOutcome.TheVariants as job_outcomes
use Rattle.step_book.specs.Fronts.{FrontValue}
use Rattle.step_history.specs.History.{Base, Reshape, Step, last_snapshot}
use Rattle.step_history.specs.declared.job.Job.{Job}
use Rattle.step_tokens.specs.Tokens.{LeavesInDoubt, TokenValue}
use Rattle.store_keep.specs.Charges.{charge_of_limit}
use Rattle.store_keep.specs.declared.charge.Charge.{Charge}
use Rattle.store_keep.specs.declared.charge.Charge.TheVariants as charges
use Rattle.store_keep.specs.declared.fault.CommitFault.{CommitFault}
use Rattle.store_keep.specs.declared.fault.CommitFault.TheVariants as faults
use Rattle.store_keep.specs.declared.fault.Committed.{Committed}
use Rattle.store_keep.specs.declared.install_fault.InstallFault.{InstallFault}
use Rattle.store_keep.specs.declared.install_fault.InstallFault.TheVariants as install_faults
use Rattle.snap_share.specs.Answers.{Advances, Contradicts, IsAcknowledged, IsInDoubt, IsNoteOf, IsOverLimit, Stays, seen_by}

-- the outcome of a commit that was answered so; none where memory was refused
abbrev pub outcome_of : {J : Type 0} → Result (Committed J) (CommitFault J) → Result CommitOutcome NoMemory
outcome_of (Ok made) = Ok (outcomes.Committed made.removed)
outcome_of (Err faults.NoMemory) = Err (record {})
outcome_of (Err (faults.Strayed numbers note)) = Ok (outcomes.Strayed numbers)
outcome_of (Err (faults.Duplicate id note)) = Ok (outcomes.Duplicate id)
outcome_of (Err (faults.Full full note)) = Ok (outcomes.Full full)
outcome_of (Err faults.Refused) = Ok outcomes.Refused
outcome_of (Err (faults.InDoubt doubt)) = Ok (outcomes.InDoubt doubt)

-- how a commit of this outcome is charged to its token: as a fault of the disk, as a stop, or not at all
abbrev pub charge_by : CommitOutcome → Charge
charge_by (outcomes.Committed removed) = charges.Free
charge_by (outcomes.Duplicate id) = charges.Free
charge_by (outcomes.Full full) = charge_of_limit full.what
charge_by outcomes.Refused = charges.Fault
charge_by (outcomes.InDoubt doubts.Disk) = charges.Fault
charge_by (outcomes.InDoubt doubts.Memory) = charges.Free
charge_by (outcomes.Strayed numbers) = charges.Stop

-- the numbers of an outcome that is a contradiction
abbrev pub numbers_of : CommitOutcome → Option Numbers
numbers_of (outcomes.Strayed numbers) = Some numbers
numbers_of (outcomes.Committed removed) = None
numbers_of (outcomes.Duplicate id) = None
numbers_of (outcomes.Full full) = None
numbers_of outcomes.Refused = None
numbers_of (outcomes.InDoubt doubt) = None

-- The commit was made, with some number: it is the last step of what the token has seen.
abbrev pub IsMade : Base → TokenValue → List TxnOp → ℕ → TokenValue → Type 0
IsMade base old ops removed new = (number : ℕ) × IsAcknowledged {J = Unit {0}} base old ops (record { note = seen_by new; number = number; removed = removed }) new

-- the token contradicts some history that its index told, by these numbers
abbrev pub ContradictsSome : Base → TokenValue → Numbers → Type 0
ContradictsSome base token numbers = (note : FrontValue) × Contradicts base token numbers note

-- What a commit of these operations says by its outcome, and what its token is then but for its shares: as an engine answers it, with a
-- note of all that the token has seen.
abbrev pub Tells : Schema → Base → TokenValue → List TxnOp → CommitOutcome → TokenValue → Type 0
Tells schema base old ops (outcomes.Committed removed) new = Advances schema base old new (old.made + 1) old.entered × IsNoteOf new (seen_by new) × IsMade base old ops removed new
Tells schema base old ops (outcomes.Duplicate id) new =
    Advances schema base old new old.made old.entered × IsNoteOf new (seen_by new) × (verdict ops (live (last_snapshot base new.seen)) ≡ Duplicate id)
Tells schema base old ops (outcomes.Full full) new = Advances schema base old new old.made old.entered × IsNoteOf new (seen_by new) × IsOverLimit base ops full new
Tells schema base old ops outcomes.Refused new = Advances schema base old new old.made old.entered
Tells schema base old ops (outcomes.InDoubt doubt) new = Advances schema base old new (old.made + 1) new.entered × IsInDoubt base ops old new
Tells schema base old ops (outcomes.Strayed numbers) new = Stays old new × ContradictsSome base old numbers

-- the outcome of a job whose end was answered so; none where memory was refused
abbrev pub job_outcome_of : {J : Type 0} → Result FrontValue (InstallFault J) → Result JobOutcome NoMemory
job_outcome_of (Ok note) = Ok job_outcomes.Shaped
job_outcome_of (Err install_faults.NoMemory) = Err (record {})
job_outcome_of (Err (install_faults.Strayed numbers note)) = Ok (job_outcomes.Strayed numbers)
job_outcome_of (Err (install_faults.Overtaken shape note)) = Ok (job_outcomes.Overtaken shape)
job_outcome_of (Err (install_faults.Full full)) = Ok (job_outcomes.Full full)
job_outcome_of (Err install_faults.DiskFault) = Ok job_outcomes.Refused
job_outcome_of (Err install_faults.InDoubt) = Ok job_outcomes.InDoubt

-- how a job of this outcome is charged
abbrev pub charge_by_job : JobOutcome → Charge
charge_by_job job_outcomes.Shaped = charges.Free
charge_by_job (job_outcomes.Overtaken shape) = charges.Free
charge_by_job (job_outcomes.Full full) = charge_of_limit full.what
charge_by_job job_outcomes.Refused = charges.Fault
charge_by_job job_outcomes.InDoubt = charges.Free
charge_by_job (job_outcomes.Strayed numbers) = charges.Stop

-- the numbers of a job's outcome that is a contradiction
abbrev pub numbers_of_job : JobOutcome → Option Numbers
numbers_of_job (job_outcomes.Strayed numbers) = Some numbers
numbers_of_job job_outcomes.Shaped = None
numbers_of_job (job_outcomes.Overtaken shape) = None
numbers_of_job (job_outcomes.Full full) = None
numbers_of_job job_outcomes.Refused = None
numbers_of_job job_outcomes.InDoubt = None

-- The job has ended: its end is the last step of what the token has seen, by the number of the snapshot over which the job began,
-- whatever commits came since. What stands before it begins with all that the token had seen then.
pub record IsShaped (base : Base) (job : Job) (old new : TokenValue) : Type 0 where
  pub earlier : List Step
  pub snapshot : SnapshotValue
  pub last : new.seen ≡ earlier ++ Reshape job (last_snapshot base old.seen).number snapshot ∷ []
  pub before : IsPrefix old.seen earlier

-- The end of the job waits behind what the token has seen, and its step stands in the index's book: the token keeps the steps with it,
-- and what it had left in doubt before is of one line with them.
pub record IsUnended (base : Base) (job : Job) (old new : TokenValue) : Type 0 where
  pub snapshot : SnapshotValue
  pub leaves : LeavesInDoubt old new (new.seen ++ Reshape job (last_snapshot base old.seen).number snapshot ∷ [])

-- What the end of a job says by its outcome, and what its token is then but for its shares, by what that had seen where the job began.
-- A job counts no commit.
abbrev pub TellsEnd : Schema → Base → TokenValue → Job → JobOutcome → TokenValue → Type 0
TellsEnd schema base old job job_outcomes.Shaped new = Advances schema base old new old.made old.entered × IsNoteOf new (seen_by new) × IsShaped base job old new
TellsEnd schema base old job (job_outcomes.Overtaken shape) new =
    Advances schema base old new old.made old.entered × IsNoteOf new (seen_by new) × ((last_snapshot base new.seen).shape ≡ shape) × ((last_snapshot base old.seen).shape < shape)
TellsEnd schema base old job (job_outcomes.Full full) new = Advances schema base old new old.made old.entered × (full.what ≡ Root) × (full.need ≡ 1)
TellsEnd schema base old job job_outcomes.Refused new = Advances schema base old new old.made old.entered
TellsEnd schema base old job job_outcomes.InDoubt new = Advances schema base old new old.made new.entered × IsUnended base job old new
TellsEnd schema base old job (job_outcomes.Strayed numbers) new = Stays old new × ContradictsSome base old numbers

-- There was no room for the job's chunk beside those that stay, by the snapshot over which it began: its end was never asked for.
abbrev pub HasNoRoom : Base → TokenValue → Job → JobOutcome → TokenValue → Type 0
HasNoRoom base old job (job_outcomes.Full full) new = Passes job (last_snapshot base old.seen) full.what full.at full.need × (new ≡ old)
HasNoRoom base old job outcome new = ⊥

-- What a job says by its outcome that began over all that its token had seen, and what the token is then: there was room for its chunk,
-- and its end says this; or there was none.
abbrev pub TellsJob : Schema → Base → TokenValue → Job → JobOutcome → TokenValue → Type 0
TellsJob schema base old job outcome new = (HasRoom job (last_snapshot base old.seen) × TellsEnd schema base old job outcome new) ⊎ HasNoRoom base old job outcome new
