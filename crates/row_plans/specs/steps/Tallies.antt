-- how many words have a row, up to some row
use Rattle.std.specs.Prelude.{◌≡◌, ◌<◌, ◌≤◌, ℕ, List, Bool}
use Rattle.std.specs.List.{count_by}

-- Up to the later row, at most so many of the words are there at rows from `at` on; at `from` so many are.
pub record IsTally (has : ℕ → ℕ → Bool) (words : List ℕ) (from at count later : ℕ) : Type 0 where
  pub on : at < later
  pub most : (row : ℕ) → at ≤ row → row < later → count_by (has row) words ≤ count
  pub exact : at ≡ from → count ≡ count_by (has from) words
