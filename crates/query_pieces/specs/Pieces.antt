-- The pieces of a text: operators, words, and what separates.
use Rattle.std.specs.Prelude.{◌≡◌, ◌≢◌, ◌<◌, ℕ, ◌+◌, List, [], ◌∷◌, Bool, true, false, not, ◌==◌, ◌||◌, ◌&&◌, Option, Some, None, if◌then◌else◌, length, MatchOption}
use Rattle.std.specs.Char.{len_utf8}
use Rattle.query_pieces.specs.declared.piece.Spelling.{Spelling}
use Rattle.query_pieces.specs.declared.piece.Form.{Form}
use Rattle.query_pieces.specs.declared.piece.Form.TheVariants as forms
use Rattle.query_pieces.specs.declared.piece.Piece.{Piece}
use Rattle.query_pieces.specs.QueryBytes.{byte}
use Rattle.query_pieces.specs.Operators.{slice, piece, operator_at}
use Rattle.query_pieces.specs.Letters.{Alphabet, Letter, char_at, is_star, letter_at}

-- From a place up to another the text is these letters, one after the other. The flag says that another letter of the word
-- stands directly before them.
abbrev pub AreLetters : Alphabet → List ℕ → Bool → ℕ → List ℕ → ℕ → Type 0
AreLetters alphabet text inside from [] to = from ≡ to
AreLetters alphabet text inside from (folded ∷ rest) to = (letter : Letter) × (letter_at alphabet text inside from ≡ Some letter) × (letter.folded ≡ folded) × AreLetters alphabet text true letter.to rest to

-- A run of letters stands from one place up to another: some letters, after which no further letter stands.
pub record IsRun (alphabet : Alphabet) (text : List ℕ) (from : ℕ) (letters : List ℕ) (to : ℕ) : Type 0 where
  pub some : letters ≢ []
  pub are : AreLetters alphabet text false from letters to
  pub whole : letter_at alphabet text true to ≡ None

-- the place after a `^`, where one stands
abbrev pub after_start : List ℕ → ℕ → ℕ
after_start text place = if byte text place == 94 then place + 1 else place

-- the place after a `$` or a `*` that ends a word, where one stands
abbrev pub after_end : Alphabet → List ℕ → ℕ → ℕ
after_end alphabet text place = if (byte text place == 36) || is_star alphabet (byte text place) then place + 1 else place

-- the piece that a word is, from its place, its first letter's and the one after its letters
abbrev pub word_piece : Alphabet → List ℕ → ℕ → ℕ → ℕ → Piece
word_piece alphabet text place from to =
    let spelling : Spelling = record { letters = slice from to; start = byte text place == 94; end = byte text to == 36; prefix = is_star alphabet (byte text to) } in
    piece (forms.Word spelling) (after_end alphabet text to)

-- A word: a run of letters, with `^` directly before it, and `$` or `*` directly after it, where they stand.
pub record IsWord (alphabet : Alphabet) (text : List ℕ) (place : ℕ) (p : Piece) : Type 0 where
  pub letters : List ℕ
  pub to : ℕ
  pub run : IsRun alphabet text (after_start text place) letters to
  pub is : p ≡ word_piece alphabet text place (after_start text place) to

-- the place after a character
abbrev pub char_end : ℕ → Option ℕ → ℕ
char_end place None = place
char_end place (Some c) = place + len_utf8 c

-- What separates: one character, or `\` and the character after it, if there is one.
abbrev pub separator_at : List ℕ → ℕ → Piece
separator_at text place =
    piece forms.Separator (if byte text place == 92 then char_end (place + 1) (char_at text (place + 1)) else char_end place (char_at text place))

-- where no operator begins: a word, where a letter stands, or else what separates
abbrev pub IsPlain : Alphabet → List ℕ → ℕ → Piece → Type 0
IsPlain alphabet text place p =
    MatchOption (letter_at alphabet text false (after_start text place)) (p ≡ separator_at text place) (λ letter. IsWord alphabet text place p)

-- The piece stands at the place. The flag says that a letter of a word stands directly before it.
abbrev pub Stands : Alphabet → List ℕ → Bool → ℕ → Piece → Type 0
Stands alphabet text inside place p = MatchOption (operator_at text inside place) (IsPlain alphabet text place p) (λ operator. p ≡ operator)

-- A letter stands directly before what follows the piece: it is a word without a `$` and without a `*`.
abbrev pub ends_in_letter : Form → Bool
ends_in_letter (forms.Word spelling) = not spelling.end && not spelling.prefix
ends_in_letter _ = false

-- From a place up to another the text is these pieces, one after the other.
abbrev pub Splits : Alphabet → List ℕ → Bool → ℕ → List Piece → ℕ → Type 0
Splits alphabet text inside from [] to = from ≡ to
Splits alphabet text inside from (p ∷ pieces) to = (from < length text) × Stands alphabet text inside from p × Splits alphabet text (ends_in_letter p.form) p.to pieces to

-- These are the pieces of the text.
abbrev pub ArePieces : Alphabet → List ℕ → List Piece → Type 0
ArePieces alphabet text pieces = Splits alphabet text false 0 pieces (length text)
