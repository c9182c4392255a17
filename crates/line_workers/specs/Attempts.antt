-- Attempts: what a line's events show of an index, which of them may have changed its documents, and what they tell of its history.
use Rattle.std.specs.Prelude.{◌≡◌, ⊤, ℕ, ◌==◌, ◌&&◌, List, [], ◌∷◌, length, Bool, true, false, if◌then◌else◌, Option, None}
use Rattle.std.specs.List.{filter, flat_map, sum_by}
use Rattle.std.specs.Option.{option_or}
use Rattle.commit_outcomes.specs.declared.outcome.CommitOutcome.{CommitOutcome}
use Rattle.commit_outcomes.specs.declared.outcome.CommitOutcome.TheVariants as outcomes
use Rattle.commit_outcomes.specs.declared.strayed.Strayed.{Strayed}
use Rattle.ql_session.specs.Events.{Event, Configured, Nothing, NoMemory, Read, Commit, Reshape}
use Rattle.ql_session.specs.JobOutcome.{JobOutcome}
use Rattle.ql_session.specs.JobOutcome.TheVariants as job_outcomes
use Rattle.engine_tables.specs.Outcomes.{charge_by, charge_by_job, numbers_of, numbers_of_job}
use Rattle.store_keep.specs.declared.charge.Charge.{Charge}
use Rattle.store_keep.specs.declared.charge.Charge.TheVariants as charges
use Rattle.line_workers.specs.Lines.{Service}

-- the events of a worker's lines, one line after another
abbrev pub events_of : {K F : Type 0} → List (Service K F) → List (Event F)
events_of services = flat_map (λ service. service.events) services

-- Each front of the event has P, where it is one of the index at this place: of a job both, that over which it began and the last one.
abbrev pub OnFront : {F : Type 0} → ℕ → (F → Type 0) → Event F → Type 0
OnFront index P (Configured confs) = ⊤
OnFront index P Nothing = ⊤
OnFront index P NoMemory = ⊤
OnFront index P (Read place front) = place ≡ index → P front
OnFront index P (Commit place ops outcome front) = place ≡ index → P front
OnFront index P (Reshape place job outcome own front) = place ≡ index → P own × P front

-- The last front of the event has P, where it is one of the index at this place.
abbrev pub OnLast : {F : Type 0} → ℕ → (F → Type 0) → Event F → Type 0
OnLast index P (Configured confs) = ⊤
OnLast index P Nothing = ⊤
OnLast index P NoMemory = ⊤
OnLast index P (Read place front) = place ≡ index → P front
OnLast index P (Commit place ops outcome front) = place ≡ index → P front
OnLast index P (Reshape place job outcome own front) = place ≡ index → P front

-- the commit was made, or it may be made later
abbrev pub may_stand : CommitOutcome → Bool
may_stand (outcomes.Committed removed) = true
may_stand (outcomes.InDoubt doubt) = true
may_stand (outcomes.Duplicate id) = false
may_stand (outcomes.Full full) = false
may_stand outcomes.Refused = false
may_stand (outcomes.Strayed numbers) = false

-- the commit was answered with a note of all that the worker's token has seen then
abbrev pub has_note : CommitOutcome → Bool
has_note (outcomes.Committed removed) = true
has_note (outcomes.Duplicate id) = true
has_note (outcomes.Full full) = true
has_note outcomes.Refused = false
has_note (outcomes.InDoubt doubt) = false
has_note (outcomes.Strayed numbers) = false

-- the job was answered with such a note
abbrev pub has_job_note : JobOutcome → Bool
has_job_note job_outcomes.Shaped = true
has_job_note (job_outcomes.Overtaken shape) = true
has_job_note (job_outcomes.Full full) = false
has_job_note job_outcomes.Refused = false
has_job_note job_outcomes.InDoubt = false
has_job_note (job_outcomes.Strayed numbers) = false

-- the answer is charged as a fault of the disk, or as a stop
abbrev pub is_fault : Charge → Bool
is_fault charges.Fault = true
is_fault charges.Stop = false
is_fault charges.Free = false

abbrev pub is_stop : Charge → Bool
is_stop charges.Stop = true
is_stop charges.Fault = false
is_stop charges.Free = false

-- A kind of calls, by their outcomes: which commits are of it, and which jobs.
pub record Kind : Type 0 where
  pub commits : CommitOutcome → Bool
  pub jobs : JobOutcome → Bool

-- commits that were acknowledged or are in doubt; calls that were answered with a note of all that the token has seen then; those that
-- a fault of the disk refused or left in doubt; those that a contradiction stopped, or that numbers of files or of roots had ended
abbrev pub attempts : Kind
attempts = record { commits = may_stand; jobs = λ outcome. false }

abbrev pub noted : Kind
noted = record { commits = has_note; jobs = has_job_note }

abbrev pub faults : Kind
faults = record { commits = λ outcome. is_fault (charge_by outcome); jobs = λ outcome. is_fault (charge_by_job outcome) }

abbrev pub stops : Kind
stops = record { commits = λ outcome. is_stop (charge_by outcome); jobs = λ outcome. is_stop (charge_by_job outcome) }

-- the event is a commit of the kind to the index at this place, or such a job over it
abbrev pub is_of : {F : Type 0} → Kind → ℕ → Event F → Bool
is_of kind index (Configured confs) = false
is_of kind index Nothing = false
is_of kind index NoMemory = false
is_of kind index (Read place front) = false
is_of kind index (Commit place ops outcome front) = (place == index) && kind.commits outcome
is_of kind index (Reshape place job outcome own front) = (place == index) && kind.jobs outcome

-- the events of the kind on the index
abbrev pub all_of : {F : Type 0} → Kind → ℕ → List (Event F) → List (Event F)
all_of kind index events = filter (is_of kind index) events

abbrev pub is_attempt : {F : Type 0} → ℕ → Event F → Bool
is_attempt index event = is_of attempts index event

abbrev pub is_noted : {F : Type 0} → ℕ → Event F → Bool
is_noted index event = is_of noted index event

abbrev pub attempts_on : {F : Type 0} → ℕ → List (Event F) → List (Event F)
attempts_on index events = all_of attempts index events

-- how many events of the kind on the index the lines of all workers had together
abbrev pub count_all : {F : Type 0} → Kind → ℕ → List (List (Event F)) → ℕ
count_all kind index events = sum_by (λ own. length (all_of kind index own)) events

-- the numbers that a commit to the index, or a job over it, was told, where what was counted of its history contradicts itself
abbrev pub stray_in : {F : Type 0} → ℕ → Event F → Option Strayed
stray_in index (Configured confs) = None
stray_in index Nothing = None
stray_in index NoMemory = None
stray_in index (Read place front) = None
stray_in index (Commit place ops outcome front) = if place == index then numbers_of outcome else None
stray_in index (Reshape place job outcome own front) = if place == index then numbers_of_job outcome else None

-- those of the first such commit or job
abbrev pub told_by : {F : Type 0} → ℕ → List (Event F) → Option Strayed
told_by index [] = None
told_by index (event ∷ events) = option_or (stray_in index event) (told_by index events)
