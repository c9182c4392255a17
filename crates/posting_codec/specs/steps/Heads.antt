-- The head of an entry: its row, and how many bytes its hit list has.
use Rattle.std.specs.Prelude.{◌≡◌, ℕ, ◌+◌, ◌-◌, ◌<◌, ◌≤◌, ◌^◌, List, ◌++◌, length, drop}
use Rattle.posting_codec.specs.Numbers.{number}

-- the head is spelled at this place of the bytes, before the rest of them
pub record IsHeadAt (bytes : List ℕ) (at least row size : ℕ) (rest : List ℕ) : Type 0 where
  pub behind : least ≤ row
  pub counted : row + 1 < 2 ^ 32
  pub sized : size < 2 ^ 32
  pub here : drop at bytes ≡ number (row + 1 - least) ++ (number size ++ rest)

-- how many bytes it has
abbrev pub head_length : ℕ → ℕ → ℕ → ℕ
head_length least row size = length (number (row + 1 - least)) + length (number size)
