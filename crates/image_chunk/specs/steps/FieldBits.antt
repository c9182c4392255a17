-- The fields of hits, as bits.
use Rattle.std.specs.Prelude.{ℕ, ◌+◌, ◌^◌, List, [], ◌∷◌, nat_lt, if◌then◌else◌}

-- the fields of hits that ascend, as bits, the fields below this one aside
abbrev pub field_bits : ℕ → List (ℕ × ℕ) → ℕ
field_bits least [] = 0
field_bits least (hit ∷ hits) = if nat_lt hit.0 least then field_bits least hits else 2 ^ hit.0 + field_bits (hit.0 + 1) hits
