-- One side of an entry: a character, or a range.
use Rattle.std.specs.Prelude.{◌≢◌, ℕ, List, All}
use Rattle.charset_map.specs.declared.entries.Side.{Side}
use Rattle.charset_map.specs.declared.entries.Side.TheVariants as sides
use Rattle.charset_map.specs.Entries.{IsSingle, IsRange}

-- a byte isn't in a text
abbrev pub Lacks : ℕ → List ℕ → Type 0
Lacks byte text = All (λ b. b ≢ byte) text

-- the text is this side
abbrev pub IsSide : List ℕ → Side → Type 0
IsSide text (sides.Single range) = IsSingle text range
IsSide text (sides.Range range) = IsRange text range
