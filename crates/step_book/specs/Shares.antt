-- Shares: what beginnings of an index's line of calls tell of the whole line. An entry is the number of the worker whose call it was.
use Rattle.std.specs.Prelude.{◌≡◌, ℕ, List, [], ◌∷◌, ◌==◌, false, length}
use Rattle.std.specs.List.{filter, list_any, sum_by}
use mathlib.Core.List.{IsPrefix}
use Rattle.logbook.specs.Pages.{Book}

-- Which index it is of, by its number, and whose calls were entered, in their order.
pub record ShareValue : Type 0 where
  pub index : ℕ
  pub calls : List ℕ

-- how many of the calls are the worker's
abbrev pub calls_by : ℕ → List ℕ → ℕ
calls_by worker calls = length (filter (λ caller. caller == worker) calls)

-- what a worker has seen of a line
pub record SeenBy : Type 0 where
  pub worker : ℕ
  pub calls : List ℕ

-- no worker is there twice
abbrev pub AreApart : List SeenBy → Type 0
AreApart [] = Unit {0}
AreApart (one ∷ others) = (list_any (λ other. other.worker == one.worker) others ≡ false) × AreApart others

-- each has seen a beginning of the line
abbrev pub BeginAll : List ℕ → List SeenBy → Type 0
BeginAll line [] = Unit {0}
BeginAll line (one ∷ others) = IsPrefix one.calls line × BeginAll line others

-- how many of what they have seen are calls of their own, of all together
abbrev pub sum_of_shares : List SeenBy → ℕ
sum_of_shares all = sum_by (λ one. calls_by one.worker one.calls) all

-- the books of a kind of line, by those of faults and those of stops
abbrev pub of_faults : (ℕ → Book) → (ℕ → Book) → ℕ → Book
of_faults faults stops = faults

abbrev pub of_stops : (ℕ → Book) → (ℕ → Book) → ℕ → Book
of_stops faults stops = stops
