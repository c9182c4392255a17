-- Lines: the writing end of an index.
use Rattle.std.specs.Prelude.{ℕ, ◌+◌, ◌<◌, ◌≤◌, ◌^◌, List, [], ◌∷◌, ◌++◌, length, Option, None, Some, All, IfSome}
use Rattle.doc_types.specs.declared.schema.Schema.{Schema}
use Rattle.step_history.specs.History.{Base, Step, Commit, Reshape, AreOf, Follows, IsGood, made_by, snapshot_of}
use Rattle.step_book.specs.Fronts.{FrontValue}
use Rattle.step_tokens.specs.Tokens.{TokenValue}

-- Of which index it is, how many workers commit, the published steps, and the step that waits to be published, if one does.
pub record LineValue : Type 0 where
  pub index : ℕ
  pub workers : ℕ
  pub history : List Step
  pub waiting : Option Step

-- a line over a snapshot at opening, of so many workers
abbrev pub new_line : ℕ → ℕ → LineValue
new_line index workers = record { index = index; workers = workers; history = []; waiting = None }

-- a token of a worker of an index, which has seen this history and made nothing
abbrev pub new_token : ℕ → ℕ → List Step → TokenValue
new_token index worker history = record { index = index; worker = worker; seen = history; made = 0; faults = []; stops = []; entered = None }

-- some steps, and then the one that waits
abbrev pub with_waiting : List Step → Option Step → List Step
with_waiting steps None = steps
with_waiting steps (Some step) = steps ++ step ∷ []

abbrev pub entered : LineValue → List Step
entered line = with_waiting line.history line.waiting

-- the line once what waits is published
abbrev pub settled : LineValue → LineValue
settled line = record line { history = entered line; waiting = None }

-- how many commits are a worker's, the one that waits included
abbrev pub kept_by : ℕ → LineValue → ℕ
kept_by worker line = made_by worker (entered line)

-- a step that may be published next
pub record MayFollow (schema : Schema) (base : Base) (history : List Step) (step : Step) : Type 0 where
  pub room : length history + 1 < 2 ^ 63
  pub follows : Follows base history step
  pub of : AreOf schema (snapshot_of step)

-- A step that is to be published, and the front that it follows.
pub record PendingValue : Type 0 where
  pub from : FrontValue
  pub step : Step

-- the step that waits, if one does
abbrev pub step_in : Option PendingValue → Option Step
step_in None = None
step_in (Some pending) = Some pending.step

-- a commit is by one of so many workers
abbrev pub IsBy : ℕ → Step → Type 0
IsBy workers (Commit entry snapshot) = (0 < entry.worker) × (entry.worker ≤ workers)
IsBy workers (Reshape job through snapshot) = Unit {0}

-- each commit of a line is by one of its workers, the one that waits included
abbrev pub AreBy : LineValue → Type 0
AreBy line = All (IsBy line.workers) (entered line)

-- what waits, if a step does, may be published next
abbrev pub MayWait : Schema → Base → LineValue → Type 0
MayWait schema base line = IfSome line.waiting (MayFollow schema base line.history)

-- A line of an index: the history is good, what waits may be published next, and all commits are by the line's workers.
pub record IsLine (schema : Schema) (base : Base) (line : LineValue) : Type 0 where
  pub good : IsGood schema base line.history
  pub next : MayWait schema base line
  pub by : AreBy line
