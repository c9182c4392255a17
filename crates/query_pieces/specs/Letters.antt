-- Letters: the characters of a text that make words. A character table gives what a character is folded to, or nothing where
-- it separates words.
use Rattle.std.specs.Prelude.{ℕ, ◌+◌, List, [], ◌∷◌, Bool, ◌==◌, ◌||◌, ◌&&◌, Option, Some, None, is_some, if◌then◌else◌, drop}
use Rattle.std.specs.Char.{len_utf8}
use Rattle.std.specs.Str.{chars}
use Rattle.query_pieces.specs.QueryBytes.{byte}
use Rattle.query_pieces.specs.Operators.{operator_at}

-- What texts are read by: the character table, and whether a `*` directly behind a letter makes a prefix of its word.
pub record Alphabet : Type 0 where
  pub fold : ℕ → Option ℕ
  pub stars : Bool

abbrev pub alphabet_of : (ℕ → Option ℕ) → Bool → Alphabet
alphabet_of fold stars = record { fold = fold; stars = stars }

-- a letter as it is folded, and the place after it
pub record Letter : Type 0 where
  pub folded : ℕ
  pub to : ℕ

-- the first of some characters
abbrev pub first_of : List ℕ → Option ℕ
first_of [] = None
first_of (c ∷ cs) = Some c

-- the character at a place
unfoldable pub char_at : List ℕ → ℕ → Option ℕ
char_at text place = first_of (chars (drop place text))

-- a character up to a place, by what it is folded to
abbrev pub letter_of : ℕ → Option ℕ → Option Letter
letter_of to None = None
letter_of to (Some v) = Some (record { folded = v; to = to })

-- the letter that a character at a place is, by the table alone
abbrev pub by_table : (ℕ → Option ℕ) → ℕ → Option ℕ → Option Letter
by_table fold place None = None
by_table fold place (Some c) = letter_of (place + len_utf8 c) (fold c)

-- a byte that makes a prefix of the word before it
abbrev pub is_star : Alphabet → ℕ → Bool
is_star alphabet b = alphabet.stars && (b == 42)

-- A byte that marks a word's start or end. The flag says that a letter of the word stands directly before it.
abbrev pub is_word_mark : Alphabet → Bool → ℕ → Bool
is_word_mark alphabet inside b = ((b == 94) || (b == 36)) || (inside && is_star alphabet b)

-- The letter at a place: a character of the table that is no mark of a word and at which no operator begins, or `\` and any
-- character of the table. The flag says that a letter of the same word stands directly before it.
unfoldable pub letter_at : Alphabet → List ℕ → Bool → ℕ → Option Letter
letter_at alphabet text inside place =
    if byte text place == 92 then by_table alphabet.fold (place + 1) (char_at text (place + 1)) else
    if is_word_mark alphabet inside (byte text place) then None else
    if is_some (operator_at text inside place) then None else
    by_table alphabet.fold place (char_at text place)
