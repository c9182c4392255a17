-- Numbers that bytes begin with, and what follows them: "Protocol::FixedLengthInteger" and "Protocol::LengthEncodedInteger".
use Rattle.std.specs.Prelude.{ℕ, List, [], ◌∷◌, Option, Some, None, ◌==◌, drop, nat_lt, option_map, if◌then◌else◌}
use Rattle.srch_base.specs.Numbers.{field_at}

-- a number of so many bytes, the low one first
abbrev pub fixed_front : ℕ → List ℕ → Option (ℕ × List ℕ)
fixed_front size bytes = option_map (λ number. (number, drop size bytes)) (field_at size bytes 0)

-- a length-encoded number in any of its spellings
abbrev pub lenenc_front : List ℕ → Option (ℕ × List ℕ)
lenenc_front [] = None
lenenc_front (first ∷ rest) =
    if nat_lt first 251 then Some (first, rest)
    else (if first == 0xfc then fixed_front 2 rest
    else (if first == 0xfd then fixed_front 3 rest
    else (if first == 0xfe then fixed_front 8 rest
    else None)))
