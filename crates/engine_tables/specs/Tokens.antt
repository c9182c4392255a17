-- Tokens: a worker's tokens of all indexes.
use Rattle.std.specs.Prelude.{◌≡◌, ◌<◌, ◌≤◌, ◌==◌, ℕ, zero, suc, List, [], ◌∷◌, ◌++◌, length, map, Option, Some, None, slice_get}
use Rattle.std.specs.List.{IsDistinct, flat_map}
use Rattle.std.specs.Option.{option_to_list}
use Rattle.commit_outcomes.specs.declared.strayed.Strayed.{Strayed}
use Rattle.step_line.specs.Lines.{new_token}
use Rattle.step_tokens.specs.Tokens.{TokenValue}
use Rattle.engine_tables.specs.Engines.{EnginesValue}

-- Whose they are, a token of each index, in their order, and of each index the first contradiction that a commit or a job of the
-- worker was answered, where one was.
pub record TokensValue : Type 0 where
  pub worker : ℕ
  pub list : List TokenValue
  pub told : List (Option Strayed)

-- Each is of the index at its place, and the worker's.
pub record AreInOrder (tokens : TokensValue) : Type 0 where
  pub alike : length tokens.told ≡ length tokens.list
  pub each : (place : ℕ) (token : TokenValue) → slice_get tokens.list place ≡ Some token → (token.index ≡ place) × (token.worker ≡ tokens.worker)

-- They are of one of so many workers, one of each of so many indexes.
pub record AreOf (indexes workers : ℕ) (tokens : TokensValue) : Type 0 where
  pub many : length tokens.list ≡ indexes
  pub above : 0 < tokens.worker
  pub within : tokens.worker ≤ workers

-- they are of one of the workers of these engines, one of each
abbrev pub SitsAt : EnginesValue → TokensValue → Type 0
SitsAt engines = AreOf (length engines.confs) engines.workers

-- No two of these are of one worker.
pub record SeatsDiffer (seats : List TokensValue) : Type 0 where
  pub apart : IsDistinct (λ (one other : ℕ). one == other) (map (λ seat. seat.worker) seats)

-- a worker's tokens of so many indexes, which have seen no step
abbrev pub new_tokens : ℕ → ℕ → List TokenValue
new_tokens worker zero = []
new_tokens worker (suc indexes) = new_tokens worker indexes ++ new_token indexes worker [] ∷ []

-- no contradiction was told of any of so many indexes
abbrev pub none_told : ℕ → List (Option Strayed)
none_told zero = []
none_told (suc indexes) = none_told indexes ++ None ∷ []

-- the tokens of a worker that has seen and made nothing yet
abbrev pub new_seat : ℕ → ℕ → TokensValue
new_seat indexes worker = record { worker = worker; list = new_tokens worker indexes; told = none_told indexes }

-- such tokens for each of so many workers, from worker 1 on
abbrev pub new_seats : ℕ → ℕ → List TokensValue
new_seats indexes zero = []
new_seats indexes (suc workers) = new_seats indexes workers ++ new_seat indexes (suc workers) ∷ []

-- the tokens of the index at a place, of one worker after the other
abbrev pub tokens_at : ℕ → List TokensValue → List TokenValue
tokens_at place seats = flat_map (λ seat. option_to_list (slice_get seat.list place)) seats

-- the contradiction that was told of an index, if there is such an index and one was
abbrev pub told_of : Option (Option Strayed) → List Strayed
told_of None = []
told_of (Some None) = []
told_of (Some (Some numbers)) = numbers ∷ []

-- the contradictions of the index at a place that workers were told, of each the first one
abbrev pub told_at : ℕ → List TokensValue → List Strayed
told_at place seats = flat_map (λ seat. told_of (slice_get seat.told place)) seats
