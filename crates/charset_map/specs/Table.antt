-- What entries mean: the value of a character.
use Rattle.std.specs.Prelude.{◌≡◌, ℕ, ◌+◌, ◌-◌, ◌≤◌, List, [], ◌∷◌, ◌&&◌, nat_le, Option, Some, None, if◌then◌else◌, All, AllPairs}
use Rattle.std.specs.Char.{IsScalar}
use Rattle.std.specs.Option.{option_or}
use Rattle.charset_map.specs.Characters.{ordinal, character_at}
use Rattle.charset_map.specs.declared.entries.CharRange.{CharRange}
use Rattle.charset_map.specs.declared.entries.Entry.{Entry}

-- the range doesn't end below its start
abbrev pub Rises : CharRange → Type 0
Rises range = range.first ≤ range.last

-- how many characters a range has beyond its first
abbrev pub steps : CharRange → ℕ
steps range = ordinal range.last - ordinal range.first

-- both ranges rise, and are equally long
pub record IsEven (entry : Entry) : Type 0 where
  pub from : Rises entry.from
  pub to : Rises entry.to
  pub length : steps entry.to ≡ steps entry.from

-- the value that an entry gives a character: what stands as far after the first value as the character after the first one
abbrev pub value_in : Entry → ℕ → Option ℕ
value_in entry c = if nat_le entry.from.first c && nat_le c entry.from.last then Some (character_at (ordinal entry.to.first + (ordinal c - ordinal entry.from.first))) else None

-- the value that a list of entries gives a character: that of the first entry which has it
abbrev pub value_of : List Entry → ℕ → Option ℕ
value_of [] c = None
value_of (entry ∷ entries) c = option_or (value_in entry c) (value_of entries c)

-- no character has one value by the first and another by the second
abbrev pub NeverDiffer : (ℕ → Option ℕ) → (ℕ → Option ℕ) → Type 0
NeverDiffer f g = (c v w : ℕ) → IsScalar c → f c ≡ Some v → g c ≡ Some w → v ≡ w

-- the entries are those of a table: each is even, and no two give a character different values
pub record IsTable (entries : List Entry) : Type 0 where
  pub even : All IsEven entries
  pub agree : AllPairs (λ entry later. NeverDiffer (value_in entry) (value_in later)) entries
