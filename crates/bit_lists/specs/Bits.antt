-- Bits, eight in a byte, the lowest first.
use Rattle.std.specs.Prelude.{ℕ, ◌/◌, ◌%◌, List, map, slice_index}
use Rattle.std.specs.Int.{bit_at}
use Rattle.std.specs.List.{range_with_len}

-- the bit of this number
abbrev pub bit_in : List ℕ → ℕ → ℕ
bit_in bytes k = bit_at (slice_index bytes (k / 8)) (k % 8)

-- the first bits, so many
unfoldable pub bits_in : List ℕ → ℕ → List ℕ
bits_in bytes count = map (bit_in bytes) (range_with_len 0 count)
