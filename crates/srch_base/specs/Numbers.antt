-- Number fields: unsigned, the low byte first.
use Rattle.std.specs.Prelude.{ℕ, ◌+◌, ◌*◌, List, [], ◌∷◌, Option, Some, None, length, take, drop, nat_le, if◌then◌else◌}

-- the number that these bytes spell, the low byte first
abbrev pub number_of : List ℕ → ℕ
number_of [] = 0
number_of (byte ∷ bytes) = byte + 256 * number_of bytes

-- the field of this many bytes at a place, where it is whole
abbrev pub field_at : ℕ → List ℕ → ℕ → Option ℕ
field_at size bytes at = if nat_le (at + size) (length bytes) then Some (number_of (take size (drop at bytes))) else None
