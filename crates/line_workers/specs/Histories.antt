-- Histories: the one history of an index, by what the lines were shown of it and told.
use Rattle.std.specs.Prelude.{◌≡◌, ⊤, ℕ, ◌+◌, ◌<◌, ◌≤◌, ◌==◌, true, List, [], ◌∷◌, ◌++◌, Some, All, length, slice_get}
use Rattle.std.specs.List.{filter}
use mathlib.Core.List.{IsPrefix}
use Rattle.commit_outcomes.specs.declared.outcome.CommitOutcome.TheVariants.{Committed, InDoubt}
use Rattle.doc_types.specs.declared.schema.Schema.{Schema}
use Rattle.doc_types.specs.declared.transactions.TxnOp.{TxnOp}
use Rattle.doc_types.specs.Commits.{Entry}
use Rattle.doc_types.specs.Snapshots.{SnapshotValue}
use Rattle.ql_session.specs.Events.{Event, Commit, Reshape}
use Rattle.ql_session.specs.JobOutcome.TheVariants.{Shaped}
use Rattle.step_book.specs.Fronts.{FrontValue}
use Rattle.step_history.specs.History.{Base, Step, IsGood, commits, commits_by, last_snapshot, made_by}
use Rattle.step_history.specs.History as steps
use Rattle.step_history.specs.declared.job.Job.{Job}
use Rattle.store_steps.specs.Answers.{Becomes}
use Rattle.line_workers.specs.Attempts.{OnFront, OnLast, attempts_on, is_noted}

-- The entry ends the front. It is what the worker's operations became over the documents before it, and so many ids that they kill
-- were there.
pub record IsLastOf (base : Base) (worker : ℕ) (ops : List TxnOp) (removed : ℕ) (front : FrontValue) (entry : Entry) : Type 0 where
  pub earlier : List Step
  pub snapshot : SnapshotValue
  pub last : front.steps ≡ earlier ++ steps.Commit entry snapshot ∷ []
  pub becomes : Becomes base earlier worker ops entry snapshot removed

-- The entry is that of a worker's commit, which was acknowledged over this front, or is in doubt: then the worker can't name it.
abbrev pub IsEntryOf : Base → ℕ → Event FrontValue → Entry → Type 0
IsEntryOf base worker (Commit place ops (Committed removed) front) entry = IsLastOf base worker ops removed front entry
IsEntryOf base worker (Commit place ops (InDoubt doubt) front) entry = ⊤
IsEntryOf base worker event entry = ⊥

-- the commit is in doubt
abbrev pub IsDoubtful : Event FrontValue → Type 0
IsDoubtful (Commit place ops (InDoubt doubt) front) = ⊤
IsDoubtful event = ⊥

-- the commit was acknowledged
abbrev pub IsAcknowledged : Event FrontValue → Type 0
IsAcknowledged (Commit place ops (Committed removed) front) = ⊤
IsAcknowledged event = ⊥

-- The entries are those of a worker's commits, in their order: each has one. The last commit may have none, where it is in doubt.
abbrev pub AreEntriesOf : Base → ℕ → List (Event FrontValue) → List Entry → Type 0
AreEntriesOf base worker [] [] = ⊤
AreEntriesOf base worker [] (entry ∷ entries) = ⊥
AreEntriesOf base worker (event ∷ events) [] = IsDoubtful event × (events ≡ [])
AreEntriesOf base worker (event ∷ events) (entry ∷ entries) = IsEntryOf base worker event entry × AreEntriesOf base worker events entries

-- The job's end ends the front: it is of the number of the snapshot over which the job began, which is the last one of its own front.
-- What stands before it begins with that front, whatever commits came meanwhile.
pub record IsEndOf (base : Base) (job : Job) (own front : FrontValue) : Type 0 where
  pub earlier : List Step
  pub snapshot : SnapshotValue
  pub last : front.steps ≡ earlier ++ steps.Reshape job (last_snapshot base own.steps).number snapshot ∷ []
  pub before : IsPrefix own.steps earlier

-- A job over the index that has ended stands in its front.
abbrev pub HasItsEnd : Base → ℕ → Event FrontValue → Type 0
HasItsEnd base index (Reshape place job Shaped own front) = place ≡ index → IsEndOf base job own front
HasItsEnd base index event = ⊤

-- What the lines of a worker were shown and told of an index is of this history. Each front is a beginning of it, and the worker's
-- entries in that are those of its commits up to then; and the worker's entries in the whole history are those of all its commits.
-- Once a commit or a job is answered with a note, each of the worker's commits up to then has its entry, in the last front of this
-- event and in all later ones, also one that was in doubt. A job of the worker's stands in the history where it has ended.
pub record IsOfHistory (base : Base) (index : ℕ) (history : List Step) (worker : ℕ) (events : List (Event FrontValue)) : Type 0 where
  pub begins : All (OnFront index (λ front. IsPrefix front.steps history)) events
  pub own : (before : List (Event FrontValue)) (event : Event FrontValue) (later : List (Event FrontValue)) → events ≡ before ++ event ∷ later
      → OnFront index (λ front. AreEntriesOf base worker (attempts_on index (before ++ event ∷ [])) (commits_by worker front.steps)) event
  pub noted : (before : List (Event FrontValue)) (event : Event FrontValue) (later : List (Event FrontValue)) → events ≡ before ++ event ∷ later → is_noted index event ≡ true
      → OnLast index (λ front. length (attempts_on index (before ++ event ∷ [])) ≤ made_by worker front.steps) event
      × All (OnFront index (λ front. length (attempts_on index (before ++ event ∷ [])) ≤ made_by worker front.steps)) later
  pub jobs : All (HasItsEnd base index) events
  pub entries : AreEntriesOf base worker (attempts_on index events) (commits_by worker history)

-- The one history of an index, by the events of each worker's lines: it is good, all lines saw beginnings of it, and each of its
-- entries is of a commit that one of them asked for.
pub record IsOneHistory (schema : Schema) (base : Base) (index : ℕ) (history : List Step) (events : List (List (Event FrontValue))) : Type 0 where
  pub good : IsGood schema base history
  pub each : (place : ℕ) (own : List (Event FrontValue)) → slice_get events place ≡ Some own → IsOfHistory base index history (place + 1) own
  pub others : All (λ entry. (0 < entry.worker) × (entry.worker ≤ length events)) (commits history)

-- the entries of a history that are a worker's of this number
abbrev pub entries_numbered : ℕ → ℕ → List Step → List Entry
entries_numbered worker seq history = filter (λ entry. entry.seq == seq) (commits_by worker history)

-- The event is the commit of this number, counted from 0, of those to the index that a worker's lines were acknowledged or that are in
-- doubt; the worker's place is counted from 0 too.
pub record IsAttempt (index : ℕ) (events : List (List (Event FrontValue))) (place number : ℕ) (event : Event FrontValue) : Type 0 where
  pub own : List (Event FrontValue)
  pub of : slice_get events place ≡ Some own
  pub at : slice_get (attempts_on index own) number ≡ Some event

-- The entry is that of some commit that a line asked for.
pub record IsAskedFor (base : Base) (index : ℕ) (events : List (List (Event FrontValue))) (entry : Entry) : Type 0 where
  pub place : ℕ
  pub number : ℕ
  pub event : Event FrontValue
  pub worker : entry.worker ≡ place + 1
  pub seq : entry.seq ≡ number + 1
  pub asked : IsAttempt index events place number event
  pub is : IsEntryOf base entry.worker event entry
