-- What ties the parts of a tally to each other.
use Rattle.std.specs.Prelude.{◌≡◌, ℕ, ◌+◌, ◌<◌, ◌^◌, List, length, slice_index_or, Option, None, Some}
use Rattle.step_book.specs.Shares.{ShareValue, calls_by}

-- the right to enter the next call, where it was taken
abbrev pub IsTurn : ShareValue → Option ShareValue → Type 0
IsTurn share None = Unit {0}
IsTurn share (Some turn) = (turn ≡ share) × (length share.calls + 1 < 2 ^ 63)

-- the counts are those of the workers' calls, from worker 1 on
abbrev pub AreCallers : List ℕ → List ℕ → Type 0
AreCallers counts calls = (place : ℕ) → place < length counts → slice_index_or counts place 0 ≡ calls_by (place + 1) calls
