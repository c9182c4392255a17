-- How the bytes of a word are written: a `\` stands before each byte that could be read as anything but a letter.
use Rattle.std.specs.Prelude.{ℕ, List, [], ◌∷◌, ◌++◌, Bool, true, false, ◌==◌, ◌&&◌, ◌||◌, not, nat_le, codes, bytes_eq}
use Rattle.std.specs.Char.{is_ascii_alphanumeric}
use Rattle.query_pieces.specs.QueryBytes.{is_bound}

-- a letter, a digit, `_`, or a byte of a character that isn't ASCII
abbrev pub is_plain : ℕ → Bool
is_plain b = nat_le 128 b || is_ascii_alphanumeric b || (b == 95)

-- an operator that is written in letters alone
abbrev pub is_lettered : List ℕ → Bool
is_lettered bytes = bytes_eq bytes (codes "MAYBE") || bytes_eq bytes (codes "SENTENCE") || bytes_eq bytes (codes "PARAGRAPH")

-- No `\` stands before a byte and those after it. The flag says that the word begins here, or that a byte that bounds such an
-- operator stands directly before.
abbrev pub stays : Bool → ℕ → List ℕ → Bool
stays bounded b bytes = is_plain b && not (bounded && is_lettered (b ∷ bytes))

-- what stands before a byte
abbrev pub escape : Bool → List ℕ
escape true = []
escape false = 92 ∷ []

abbrev pub spelled_from : Bool → List ℕ → List ℕ
spelled_from bounded [] = []
spelled_from bounded (b ∷ bytes) = escape (stays bounded b bytes) ++ b ∷ spelled_from (is_bound b) bytes

-- a word, as it is written
abbrev pub spelled : List ℕ → List ℕ
spelled word = spelled_from true word
