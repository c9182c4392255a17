-- Short numbers: the spelling of a number, and where one stands.
use Rattle.std.specs.Prelude.{◌≡◌, ℕ, zero, suc, ◌+◌, ◌/◌, ◌%◌, ◌<◌, ◌^◌, List, [], ◌∷◌, ◌++◌, nat_lt, if◌then◌else◌, drop}

-- the spelling of a number, with so many bytes after the first at most: a number below 128 is its own byte, and a greater one the
-- byte of its lowest 7 bits, with the high bit set, before the spelling of its other bits
abbrev pub spelled : ℕ → ℕ → List ℕ
spelled zero n = n ∷ []
spelled (suc more) n = if nat_lt n 128 then n ∷ [] else (128 + n % 128) ∷ spelled more (n / 128)

-- the spelling of a number of 32 bits: 1 to 5 bytes
unfoldable pub number : ℕ → List ℕ
number n = spelled 4 n

-- the number is spelled at this place of the bytes, before the rest of them
pub record IsNumberAt (bytes : List ℕ) (at n : ℕ) (rest : List ℕ) : Type 0 where
  pub fits : n < 2 ^ 32
  pub here : drop at bytes ≡ number n ++ rest
