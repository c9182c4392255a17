-- What ties the parts of a line to each other.
use Rattle.std.specs.Prelude.{◌≡◌, ℕ, ◌+◌, ◌-◌, ◌<◌, List, [], ◌∷◌, ◌++◌, Option, None, Some, length, slice_index_or, slice_set}
use Rattle.std.specs.List.{fold}
use Rattle.step_history.specs.History.{Step}
use Rattle.step_book.specs.Fronts.{FrontValue}
use Rattle.step_tokens.specs.Shows.{ShownValue}
use Rattle.step_line.specs.Lines.{LineValue, PendingValue, kept_by}

-- what waits follows what is published
abbrev pub Waits : FrontValue → Option PendingValue → Type 0
Waits front None = Unit {0}
Waits front (Some pending) = pending.from ≡ front

-- the front with one more step
abbrev pub longer : FrontValue → Step → FrontValue
longer front step = record front { steps = front.steps ++ step ∷ [] }

-- the right to add the next step is there
abbrev pub HasTurn : FrontValue → Option FrontValue → Type 0
HasTurn front None = ⊥
HasTurn front (Some turn) = turn ≡ front

-- it is where nothing waits
abbrev pub IsReady : FrontValue → Option FrontValue → Option PendingValue → Type 0
IsReady front turn None = HasTurn front turn
IsReady front turn (Some pending) = Unit {0}

-- the counts are those of the workers' commits, from worker 1 on
abbrev pub AreCounts : List ℕ → LineValue → Type 0
AreCounts counts line = (place : ℕ) → place < length counts → slice_index_or counts place 0 ≡ kept_by (place + 1) line

-- the counts with one commit more, where it is some worker's
abbrev pub one_more : Option ℕ → List ℕ → List ℕ
one_more None counts = counts
one_more (Some worker) counts = slice_set counts (worker - 1) (slice_index_or counts (worker - 1) 0 + 1)

-- what is shown once all that was appended is taken in
abbrev pub queued : ShownValue → List ShownValue → ShownValue
queued shown operations = fold (λ shown next. next) shown operations
