-- The bytes of a text. Places are numbers of bytes; before its first byte and past its last one a text has a blank.
use Rattle.std.specs.Prelude.{ℕ, ◌+◌, ◌-◌, List, [], ◌∷◌, Bool, true, ◌==◌, ◌&&◌, ◌||◌, nat_lt, if◌then◌else◌, length, drop, slice_index}
use Rattle.std.specs.Char.{is_ascii_alphabetic, is_ascii_alphanumeric, is_ascii_digit}
use Rattle.std.specs.List.{prefix_len}

-- the byte at a place
unfoldable pub byte : List ℕ → ℕ → ℕ
byte text place = if nat_lt place (length text) then slice_index text place else 32

-- the byte before a place
unfoldable pub byte_before : List ℕ → ℕ → ℕ
byte_before text place = if place == 0 then 32 else byte text (place - 1)

-- a space, a tab, a carriage return or a line feed
abbrev pub is_blank : ℕ → Bool
is_blank b = (b == 32) || (b == 9) || (b == 13) || (b == 10)

-- a blank, a parenthesis or a quote: what bounds an operator that is written in letters
abbrev pub is_bound : ℕ → Bool
is_bound b = is_blank b || (b == 40) || (b == 41) || (b == 34)

-- what stands before a NOT: a blank, `(`, `|` or `"`
abbrev pub opens_not : ℕ → Bool
opens_not b = is_blank b || (b == 40) || (b == 124) || (b == 34)

-- a letter or `_`, with which the name of a field begins
abbrev pub begins_field : ℕ → Bool
begins_field b = is_ascii_alphabetic b || (b == 95)

-- a letter, a digit or `_`
abbrev pub is_field_byte : ℕ → Bool
is_field_byte b = is_ascii_alphanumeric b || (b == 95)

-- a letter, with which the name of a tag begins
abbrev pub begins_zone : ℕ → Bool
begins_zone b = is_ascii_alphabetic b

-- a letter, a digit, `_`, `-` or `:`
abbrev pub is_zone_byte : ℕ → Bool
is_zone_byte b = is_ascii_alphanumeric b || (b == 95) || (b == 45) || (b == 58)

-- the bytes stand at the place
abbrev pub spells : List ℕ → ℕ → List ℕ → Bool
spells text place [] = true
spells text place (b ∷ bytes) = (byte text place == b) && spells text (place + 1) bytes

-- the place after the bytes from a place on that pass a test
unfoldable pub run_end : (ℕ → Bool) → List ℕ → ℕ → ℕ
run_end test text place = place + prefix_len test (drop place text)

-- the place after the digits that stand at a place
abbrev pub digits_end : List ℕ → ℕ → ℕ
digits_end text place = run_end is_ascii_digit text place
