-- Length-encoded numbers and texts: "Protocol::LengthEncodedInteger" and "Protocol::LengthEncodedString".
use Rattle.std.specs.Prelude.{ℕ, ◌^◌, List, [], ◌∷◌, ◌++◌, length, take, nat_lt, if◌then◌else◌}
use Rattle.std.specs.Int.{w16, w32, w64, to_le_bytes}

-- the shortest spelling, which is the one that is written
unfoldable pub lenenc : ℕ → List ℕ
lenenc n =
    if nat_lt n 251 then n ∷ []
    else (if nat_lt n (2 ^ 16) then 0xfc ∷ to_le_bytes w16 n
    else (if nat_lt n (2 ^ 24) then 0xfd ∷ take 3 (to_le_bytes w32 n)
    else 0xfe ∷ to_le_bytes w64 n))

-- a text after its length
abbrev pub lenenc_text : List ℕ → List ℕ
lenenc_text text = lenenc (length text) ++ text
