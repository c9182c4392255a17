-- Characters: their order, and how a table writes them.
use Rattle.std.specs.Prelude.{◌≡◌, ℕ, ◌+◌, ◌-◌, ◌≤◌, List, [], ◌∷◌, Bool, true, ◌==◌, ◌||◌, ◌&&◌, not, nat_lt, length, if◌then◌else◌, ◌⊎◌}
use Rattle.std.specs.Char.{IsScalar}
use Rattle.std.specs.Int.{is_in_range}
use Rattle.std.specs.Str.Parse.{digits_value, AllDigits}

-- the number of a character among all characters in order, which skips the surrogates
abbrev pub ordinal : ℕ → ℕ
ordinal c = if nat_lt c 0xD800 then c else c - 0x800

-- the character of a number
abbrev pub character_at : ℕ → ℕ
character_at n = if nat_lt n 0xD800 then n else n + 0x800

-- a space, a tab, a CR or an LF
abbrev pub is_blank : ℕ → Bool
is_blank b = (b == 32) || (b == 9) || (b == 13) || (b == 10)

-- a byte with which a table separates: , - > . / +
abbrev pub is_mark : ℕ → Bool
is_mark b = (b == 44) || (b == 45) || (b == 62) || (b == 46) || (b == 47) || (b == 43)

-- a printable ASCII character that writes itself
abbrev pub is_plain : ℕ → Bool
is_plain b = is_in_range 33 126 b && not (is_mark b)

-- the text is `U+` and the one to six hexadecimal digits of a character
pub record IsCode (text : List ℕ) (c : ℕ) : Type 0 where
  pub digits : List ℕ
  pub is : text ≡ 85 ∷ 43 ∷ digits
  pub some : 1 ≤ length digits
  pub few : length digits ≤ 6
  pub hexadecimal : AllDigits 16 digits
  pub value : digits_value 16 digits ≡ c
  pub scalar : IsScalar c

-- the text writes this character
abbrev pub IsCharacter : List ℕ → ℕ → Type 0
IsCharacter text c = ((text ≡ c ∷ []) × (is_plain c ≡ true)) ⊎ IsCode text c
