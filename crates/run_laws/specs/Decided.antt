-- Decided: commits and jobs that the history of their index decides, and not a fault of its disk; and what is replied to them then.
use Rattle.std.specs.Prelude.{◌≡◌, ◌⊎◌, ⊤, ◌<◌, ℕ, List, Some}
use Rattle.commit_outcomes.specs.declared.outcome.CommitOutcome.{CommitOutcome}
use Rattle.commit_outcomes.specs.declared.outcome.CommitOutcome.TheVariants as outcomes
use Rattle.commit_outcomes.specs.declared.outcome.Doubt.TheVariants as doubts
use Rattle.commit_outcomes.specs.declared.outcome.Full.{Full}
use Rattle.commit_outcomes.specs.declared.outcome.FullKind.TheVariants.{Root}
use Rattle.commit_outcomes.specs.declared.strayed.Strayed.{Strayed as Numbers}
use Rattle.doc_types.specs.Commits.{Accepted, Change, Duplicate, Entry, verdict}
use Rattle.doc_types.specs.Snapshots.{SnapshotValue, live}
use Rattle.doc_types.specs.declared.transactions.TxnOp.{TxnOp}
use Rattle.job_chunks.specs.Limits.{Passes}
use Rattle.ql_answers.specs.Replies.{Done, Fails, Finds, Reply, Shows}
use Rattle.ql_refusals.specs.Refusals.{duplicate_id, index_full, overtaken, strayed}
use Rattle.ql_session.specs.Events.{Commit, Configured, Event, NoMemory, Nothing, Read, Reshape}
use Rattle.ql_session.specs.JobOutcome.{JobOutcome}
use Rattle.ql_session.specs.JobOutcome.TheVariants as job_outcomes
use Rattle.step_book.specs.Fronts.{FrontValue}
use Rattle.step_history.specs.History.{Base, last_snapshot}
use Rattle.step_history.specs.declared.job.Job.{Job}
use Rattle.step_tokens.specs.Tokens.{TokenValue}
use Rattle.store_steps.specs.Refusals.{full_of}
use Rattle.snap_share.specs.Answers.{seen_by}
use Rattle.engine_tables.specs.Outcomes.{ContradictsSome}
use Rattle.line_workers.specs.Histories.{IsEndOf, IsLastOf}

-- the documents after a front
abbrev pub snapshot_after : Base → FrontValue → SnapshotValue
snapshot_after base front = last_snapshot base front.steps

-- A token that has seen this front contradicts a history of its index by these numbers.
pub record HasStrayed (base : Base) (front : FrontValue) (numbers : Numbers) : Type 0 where
  pub token : TokenValue
  pub is : front ≡ seen_by token
  pub contradicts : ContradictsSome base token numbers

-- The worker's operations were made over some documents: their entry ends the front, with so many ids of theirs that were there.
abbrev pub IsMade : Base → ℕ → List TxnOp → ℕ → FrontValue → Type 0
IsMade base worker ops removed front = (entry : Entry) × IsLastOf base worker ops removed front entry

-- The operations would be accepted after the front, and pass this limit.
abbrev pub PassesLimit : Base → List TxnOp → FrontValue → Full → Type 0
PassesLimit base ops front full =
    (changes : List Change) × (removed : ℕ) × (verdict ops (live (snapshot_after base front)) ≡ Accepted changes removed) × (full_of base front.steps changes ≡ Some full)

-- By its outcome a commit was made, or memory was refused, or after the front an id is there, a limit would be passed, or the history
-- strayed. The disk decided nothing.
abbrev pub DecidesCommit : Base → ℕ → List TxnOp → FrontValue → CommitOutcome → Type 0
DecidesCommit base worker ops front (outcomes.Committed removed) = IsMade base worker ops removed front
DecidesCommit base worker ops front (outcomes.Duplicate id) = verdict ops (live (snapshot_after base front)) ≡ Duplicate id
DecidesCommit base worker ops front (outcomes.Full full) = PassesLimit base ops front full
DecidesCommit base worker ops front outcomes.Refused = ⊥
DecidesCommit base worker ops front (outcomes.InDoubt doubts.Disk) = ⊥
DecidesCommit base worker ops front (outcomes.InDoubt doubts.Memory) = ⊤
DecidesCommit base worker ops front (outcomes.Strayed numbers) = HasStrayed base front numbers

-- Another job ended before: after the front the shape is this, and was less where the job began.
abbrev pub IsOvertaken : Base → FrontValue → FrontValue → ℕ → Type 0
IsOvertaken base own front shape = ((snapshot_after base front).shape ≡ shape) × ((snapshot_after base own).shape < shape)

-- There is no room for the job's chunk beside those that stay, by its own front; or numbers of files or of roots have ended.
abbrev pub LacksRoom : Base → Job → FrontValue → Full → Type 0
LacksRoom base job own full = Passes job (snapshot_after base own) full.what full.at full.need ⊎ (full.what ≡ Root)

-- By its outcome a job has ended, or memory was refused, or it was overtaken, there was no room, or the history strayed.
abbrev pub DecidesJob : Base → Job → FrontValue → FrontValue → JobOutcome → Type 0
DecidesJob base job own front job_outcomes.Shaped = IsEndOf base job own front
DecidesJob base job own front (job_outcomes.Overtaken shape) = IsOvertaken base own front shape
DecidesJob base job own front (job_outcomes.Full full) = LacksRoom base job own full
DecidesJob base job own front job_outcomes.Refused = ⊥
DecidesJob base job own front job_outcomes.InDoubt = ⊤
DecidesJob base job own front (job_outcomes.Strayed numbers) = HasStrayed base front numbers

-- Where the event is a commit to the index or a job over it, the history of the index decided it.
abbrev pub IsDecided : (ℕ → Base) → ℕ → ℕ → Event FrontValue → Type 0
IsDecided base worker index (Configured confs) = ⊤
IsDecided base worker index Nothing = ⊤
IsDecided base worker index NoMemory = ⊤
IsDecided base worker index (Read place front) = ⊤
IsDecided base worker index (Commit place ops outcome front) = place ≡ index → DecidesCommit (base place) worker ops front outcome
IsDecided base worker index (Reshape place job outcome own front) = place ≡ index → DecidesJob (base place) job own front outcome

-- the reply is OK
abbrev pub IsOk : Reply → Type 0
IsOk reply = (affected : ℕ) × (reply ≡ Done affected)

-- the reply is ERR 1037
abbrev pub IsOutOfMemory : Reply → Type 0
IsOutOfMemory (Done affected) = ⊥
IsOutOfMemory (Shows set) = ⊥
IsOutOfMemory (Finds sets meta) = ⊥
IsOutOfMemory (Fails refusal) = refusal.code ≡ 1037

-- the reply says that the history strayed, and so it has
abbrev pub SaysStrayed : Base → FrontValue → Reply → Type 0
SaysStrayed base front reply = (numbers : Numbers) × (reply ≡ Fails (strayed numbers)) × HasStrayed base front numbers

-- Why a commit of these operations isn't made, as the reply says: an id is there, a limit would be passed, or the history strayed.
abbrev pub RefusesCommit : Base → List TxnOp → FrontValue → Reply → Type 0
RefusesCommit base ops front reply =
    ((id : ℕ) × (reply ≡ Fails (duplicate_id id)) × (verdict ops (live (snapshot_after base front)) ≡ Duplicate id))
    ⊎ ((full : Full) × (reply ≡ Fails (index_full full)) × PassesLimit base ops front full)
    ⊎ SaysStrayed base front reply

-- Why a job doesn't end: it was overtaken, there is no room, or the history strayed.
abbrev pub RefusesJob : Base → Job → FrontValue → FrontValue → Reply → Type 0
RefusesJob base job own front reply =
    ((shape : ℕ) × (reply ≡ Fails (overtaken shape)) × IsOvertaken base own front shape)
    ⊎ ((full : Full) × (reply ≡ Fails (index_full full)) × LacksRoom base job own full)
    ⊎ SaysStrayed base front reply

-- How a statement is answered that commits, or does a job: OK, and it was made or has ended; ERR 1037; or why not, which holds. Other
-- statements are answered by what was read, and by nothing that a disk does.
abbrev pub IsAnswered : (ℕ → Base) → ℕ → ℕ → Event FrontValue → Reply → Type 0
IsAnswered base worker index (Commit place ops outcome front) reply =
    place ≡ index → (IsOk reply × ((removed : ℕ) × IsMade (base place) worker ops removed front)) ⊎ IsOutOfMemory reply ⊎ RefusesCommit (base place) ops front reply
IsAnswered base worker index (Reshape place job outcome own front) reply =
    place ≡ index → (IsOk reply × IsEndOf (base place) job own front) ⊎ IsOutOfMemory reply ⊎ RefusesJob (base place) job own front reply
IsAnswered base worker index event reply = ⊤
