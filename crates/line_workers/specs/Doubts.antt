-- Doubts: what becomes of the calls on an index that lines left in doubt.
use Rattle.std.specs.Prelude.{◌≡◌, ℕ, ◌+◌, List, [], ◌∷◌, ◌++◌, Bool, true, false, Some, length, slice_get}
use Rattle.commit_outcomes.specs.declared.outcome.CommitOutcome.{CommitOutcome}
use Rattle.commit_outcomes.specs.declared.outcome.CommitOutcome.TheVariants as outcomes
use Rattle.doc_types.specs.Commits.{Entry}
use Rattle.doc_types.specs.Snapshots.{SnapshotValue}
use Rattle.ql_session.specs.Events.{Event, Commit, Reshape}
use Rattle.ql_session.specs.JobOutcome.{JobOutcome}
use Rattle.ql_session.specs.JobOutcome.TheVariants as job_outcomes
use Rattle.step_book.specs.Fronts.{FrontValue}
use Rattle.step_history.specs.History.{Base, Step, last_snapshot}
use Rattle.step_history.specs.History as steps
use Rattle.step_tokens.specs.Tokens.{AreOnOneLine}
use Rattle.store_steps.specs.Answers.{Becomes}
use Rattle.line_workers.specs.Attempts.{Kind, attempts_on, is_of}

abbrev pub is_doubtful : CommitOutcome → Bool
is_doubtful (outcomes.InDoubt doubt) = true
is_doubtful (outcomes.Committed removed) = false
is_doubtful (outcomes.Duplicate id) = false
is_doubtful (outcomes.Full full) = false
is_doubtful outcomes.Refused = false
is_doubtful (outcomes.Strayed numbers) = false

abbrev pub is_doubtful_job : JobOutcome → Bool
is_doubtful_job job_outcomes.InDoubt = true
is_doubtful_job job_outcomes.Shaped = false
is_doubtful_job (job_outcomes.Overtaken shape) = false
is_doubtful_job (job_outcomes.Full full) = false
is_doubtful_job job_outcomes.Refused = false
is_doubtful_job (job_outcomes.Strayed numbers) = false

-- commits and jobs that are in doubt
abbrev pub doubts : Kind
doubts = record { commits = is_doubtful; jobs = is_doubtful_job }

-- What a call in doubt wanted: the steps of its front with one more behind them. It is the commit that the operations of this worker
-- became over the documents there, its commit of this number; or the end of the job.
abbrev pub IsWanted : Base → ℕ → ℕ → Event FrontValue → List Step → Type 0
IsWanted base worker number (Commit place ops (outcomes.InDoubt doubt) front) wanted =
    (entry : Entry) × (snapshot : SnapshotValue) × (removed : ℕ) × Becomes base front.steps worker ops entry snapshot removed × (entry.seq ≡ number) × (wanted ≡ front.steps ++ steps.Commit entry snapshot ∷ [])
IsWanted base worker number (Reshape place job job_outcomes.InDoubt own front) wanted =
    (snapshot : SnapshotValue) × (wanted ≡ front.steps ++ steps.Reshape job (last_snapshot base own.steps).number snapshot ∷ [])
IsWanted base worker number event wanted = ⊥

-- What the call in doubt wanted begins the history: its step was settled as it was wanted. Or the history begins that: it has no step
-- there yet.
abbrev pub IsSettledSo : Base → List Step → ℕ → ℕ → Event FrontValue → Type 0
IsSettledSo base history worker number event = (wanted : List Step) × IsWanted base worker number event wanted × AreOnOneLine wanted history

-- Each call on the index that the lines of a worker left in doubt was settled as it was wanted, if it was: a commit as the one of the
-- number that it has among the worker's commits that were acknowledged or are in doubt.
pub record AreSettled (base : Base) (index : ℕ) (history : List Step) (events : List (List (Event FrontValue))) : Type 0 where
  pub each : (place : ℕ) (own before : List (Event FrontValue)) (event : Event FrontValue) (later : List (Event FrontValue)) → slice_get events place ≡ Some own → own ≡ before ++ event ∷ later → is_of doubts index event ≡ true
      → IsSettledSo base history (place + 1) (length (attempts_on index (before ++ event ∷ []))) event

-- The entry is what the operations of a worker's commit in doubt became over the documents of its front.
abbrev pub IsEntryWanted : Base → ℕ → Event FrontValue → Entry → Type 0
IsEntryWanted base worker (Commit place ops (outcomes.InDoubt doubt) front) entry = (snapshot : SnapshotValue) × (removed : ℕ) × Becomes base front.steps worker ops entry snapshot removed
IsEntryWanted base worker event entry = ⊥
