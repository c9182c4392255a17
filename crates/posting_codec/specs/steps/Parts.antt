-- Parts of a spelling: what is left of it after its first bytes.
use Rattle.std.specs.Prelude.{◌≡◌, ℕ, zero, suc, ◌*◌, ◌<◌, List, ◌++◌, drop}
use Rattle.posting_codec.specs.Numbers.{spelled}

-- what a byte and so many after it can spell is below this
abbrev pub limit : ℕ → ℕ
limit zero = 128
limit (suc more) = 128 * limit more

-- with so many bytes after the next at most the number is spelled at this place, before the rest
pub record IsPart (more : ℕ) (bytes : List ℕ) (at n : ℕ) (rest : List ℕ) : Type 0 where
  pub few : n < limit more
  pub here : drop at bytes ≡ spelled more n ++ rest
