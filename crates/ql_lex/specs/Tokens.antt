-- The tokens of a text. Places are numbers of bytes; past its end a text has the byte 0.
use Rattle.std.specs.Prelude.{◌≡◌, ◌≢◌, ℕ, ◌+◌, ◌^◌, ◌<◌, ◌≤◌, false, List, [], ◌∷◌, ◌++◌, All, map, None, Result, Ok, Err, Vec, IsTrue, length, slice_index, slice_range}
use Rattle.std.specs.Char.{is_ascii_digit}
use Rattle.std.specs.Str.{IsUtf8}
use Rattle.std.specs.Str.Parse.{digits_value}
use Rattle.srch_base.specs.declared.faults.Or.{Or}
use Rattle.srch_base.specs.declared.faults.Or.TheVariants.{NoMemory, Fault}
use Rattle.ql_lex.specs.declared.fault.LexFault.{LexFault}
use Rattle.ql_lex.specs.declared.fault.LexKind.{LexKind}
use Rattle.ql_lex.specs.declared.fault.LexKind.TheVariants.{NotUtf8, UnclosedQuote, UnclosedComment, BadCharacter, NumberTooLarge, NumberWithPoint, NameTooLong}
use Rattle.ql_lex.specs.declared.part.Part.{Part}
use Rattle.ql_lex.specs.declared.part.Part.TheVariants.{Blank, Comment, Token as TokenPart}
use Rattle.ql_lex.specs.declared.token.TokenKind.{TokenKind}
use Rattle.ql_lex.specs.declared.token.TokenKind.TheVariants.{Name, Quoted, Number, Text, SysVar, Sign, End}
use Rattle.ql_lex.specs.declared.token.Token.{Token}
use Rattle.ql_lex.specs.Shapes.{is_blank, is_name_byte, is_variable_byte, is_quote, is_digits, inside, IsQuotedText, sign_of, bare_name, IsNamed, IsLexeme}

-- `/*` stands at the place
pub record OpensComment (text : List ℕ) (place : ℕ) : Type 0 where
  pub slash : slice_index text place ≡ 47
  pub star : slice_index text (place + 1) ≡ 42

-- `*/` stands at the place
pub record ClosesComment (text : List ℕ) (place : ℕ) : Type 0 where
  pub star : slice_index text place ≡ 42
  pub slash : slice_index text (place + 1) ≡ 47

-- A comment stands from one place up to another: `/*` up to the next `*/` after it.
pub record IsComment (text : List ℕ) (from to : ℕ) : Type 0 where
  pub opens : OpensComment text from
  pub last : ℕ
  pub behind : from + 2 ≤ last
  pub closes : ClosesComment text last
  pub next : (k : ℕ) → from + 2 ≤ k → k < last → ClosesComment text k → ⊥
  pub is : to ≡ last + 2

-- What stands from one place up to another doesn't go on there: no further byte of the name or of the number follows, no
-- dot follows a number, and no longer sign stands at the first place.
abbrev pub IsWhole : TokenKind → List ℕ → ℕ → ℕ → Type 0
IsWhole Name text from to = is_name_byte (slice_index text to) ≡ false
IsWhole SysVar text from to = is_variable_byte (slice_index text to) ≡ false
IsWhole Number text from to = (is_ascii_digit (slice_index text to) ≡ false) × (slice_index text to ≢ 46)
IsWhole Sign text from to = (further : ℕ) → to < further → further ≤ length text → sign_of (slice_range text from further) ≡ None
IsWhole Quoted text from to = Unit {0}
IsWhole Text text from to = Unit {0}
IsWhole End text from to = ⊥

-- A token of this kind stands from one place up to another.
pub record IsToken (kind : TokenKind) (text : List ℕ) (from to : ℕ) : Type 0 where
  pub within : to ≤ length text
  pub lexeme : IsLexeme kind (slice_range text from to)
  pub whole : IsWhole kind text from to

-- the place after a part that stands at a place
abbrev pub end_of : ℕ → Part → ℕ
end_of place Blank = place + 1
end_of place (Comment to) = to
end_of place (TokenPart kind to) = to

-- The part stands in the text at the place.
abbrev pub Stands : List ℕ → ℕ → Part → Type 0
Stands text place Blank = IsTrue (is_blank (slice_index text place))
Stands text place (Comment to) = IsComment text place to
Stands text place (TokenPart kind to) = IsToken kind text place to

-- A text stands at the place whose characters aren't UTF-8.
pub record IsNotUtf8 (text : List ℕ) (place : ℕ) : Type 0 where
  pub to : ℕ
  pub within : to ≤ length text
  pub quoted : IsQuotedText (slice_range text place to)
  pub other : IsUtf8 (inside (slice_range text place to)) → ⊥

-- A quote opens a text at the place, and no text ends after it; or a backquote stands there, and no other after it.
pub data IsUnclosed (text : List ℕ) (place : ℕ) : Type 0 where
  open_text : IsTrue (is_quote (slice_index text place)) → ((to : ℕ) → to ≤ length text → IsQuotedText (slice_range text place to) → ⊥) → IsUnclosed text place
  open_name : slice_index text place ≡ 96 → ((k : ℕ) → place < k → slice_index text k ≢ 96) → IsUnclosed text place

-- A comment opens at the place, and `*/` doesn't follow.
pub record IsOpenComment (text : List ℕ) (place : ℕ) : Type 0 where
  pub opens : OpensComment text place
  pub open_for_good : (k : ℕ) → place + 2 ≤ k → ClosesComment text k → ⊥

-- All the digits that stand at the place write a number above the greatest one.
pub record IsTooLarge (text : List ℕ) (place : ℕ) : Type 0 where
  pub to : ℕ
  pub within : to ≤ length text
  pub digits : IsTrue (is_digits (slice_range text place to))
  pub all : is_ascii_digit (slice_index text to) ≡ false
  pub above : 2 ^ 64 ≤ digits_value 10 (slice_range text place to)

-- The digits of a number that isn't too large stand at the place, and a dot after them.
pub record IsPointed (text : List ℕ) (place : ℕ) : Type 0 where
  pub to : ℕ
  pub digits : IsTrue (is_digits (slice_range text place to))
  pub point : slice_index text to ≡ 46
  pub fits : digits_value 10 (slice_range text place to) < 2 ^ 64

-- A name of more than 64 bytes stands at the place.
pub record IsTooLong (text : List ℕ) (place : ℕ) : Type 0 where
  pub kind : TokenKind
  pub to : ℕ
  pub within : to ≤ length text
  pub named : IsNamed kind (slice_range text place to)
  pub whole : IsWhole kind text place to
  pub above : 64 < length (bare_name kind (slice_range text place to))

-- What is wrong at the place, but for a bad character.
abbrev pub IsFaulty : List ℕ → ℕ → LexKind → Type 0
IsFaulty text place NotUtf8 = IsNotUtf8 text place
IsFaulty text place UnclosedQuote = IsUnclosed text place
IsFaulty text place UnclosedComment = IsOpenComment text place
IsFaulty text place BadCharacter = ⊥
IsFaulty text place NumberTooLarge = IsTooLarge text place
IsFaulty text place NumberWithPoint = IsPointed text place
IsFaulty text place NameTooLong = IsTooLong text place

-- A byte stands at the place, no part of a text stands there, and nothing else is wrong there.
pub record IsBad (text : List ℕ) (place : ℕ) : Type 0 where
  pub within : place < length text
  pub no_part : (part : Part) → Stands text place part → ⊥
  pub no_other : (kind : LexKind) → IsFaulty text place kind → ⊥

-- What is wrong at the place.
abbrev pub Fails : List ℕ → ℕ → LexKind → Type 0
Fails text place NotUtf8 = IsNotUtf8 text place
Fails text place UnclosedQuote = IsUnclosed text place
Fails text place UnclosedComment = IsOpenComment text place
Fails text place BadCharacter = IsBad text place
Fails text place NumberTooLarge = IsTooLarge text place
Fails text place NumberWithPoint = IsPointed text place
Fails text place NameTooLong = IsTooLong text place

-- From a place up to another the text is these parts, one after the other.
abbrev pub Splits : List ℕ → ℕ → List Part → ℕ → Type 0
Splits text from [] to = from ≡ to
Splits text from (part ∷ parts) to = Stands text from part × Splits text (end_of from part) parts to

-- a token without where it lies in memory
pub record Lexeme : Type 0 where
  pub kind : TokenKind
  pub text : List ℕ
  pub at : ℕ

abbrev pub lexeme_of : Token → Lexeme
lexeme_of t = record { kind = t.kind; text = t.text.now; at = t.at }

-- the tokens among parts of a text, the first of which stands at the place
abbrev pub tokens_among : List ℕ → ℕ → List Part → List Lexeme
tokens_among text place [] = []
tokens_among text place (Blank ∷ parts) = tokens_among text (place + 1) parts
tokens_among text place (Comment to ∷ parts) = tokens_among text to parts
tokens_among text place (TokenPart kind to ∷ parts) = record { kind = kind; text = slice_range text place to; at = place } ∷ tokens_among text to parts

-- the end of a text
abbrev pub end_token : List ℕ → Lexeme
end_token text = record { kind = End; text = []; at = length text }

-- These are the tokens of the text: it is blanks, comments and tokens, one after the other, and the last token is its end.
pub record AreTokens (text : List ℕ) (tokens : List Lexeme) : Type 0 where
  pub parts : List Part
  pub splits : Splits text 0 parts (length text)
  pub are : tokens ≡ tokens_among text 0 parts ++ end_token text ∷ []

-- Up to the place the text is blanks, comments and tokens, and this is wrong there.
pub record FaultAt (text : List ℕ) (place : ℕ) (kind : LexKind) : Type 0 where
  pub parts : List Part
  pub splits : Splits text 0 parts place
  pub fails : Fails text place kind

-- Each token is one of its kind, and the last one alone is the end.
pub record AreLexemes (tokens : List Lexeme) : Type 0 where
  pub each : All (λ t. IsLexeme t.kind t.text) tokens
  pub front : List Lexeme
  pub last : Lexeme
  pub is : tokens ≡ front ++ last ∷ []
  pub ends : last.kind ≡ End
  pub others : All (λ t. t.kind ≢ End) front

-- What is answered for a text: its tokens, or the first fault from the left. Without memory nothing is said.
abbrev pub Lexes : {M : Type 0} → List ℕ → Result (Vec Token M) (Or LexFault) → Type 0
Lexes text (Ok tokens) = AreTokens text (map lexeme_of tokens.items) × AreLexemes (map lexeme_of tokens.items)
Lexes text (Err NoMemory) = Unit {0}
Lexes text (Err (Fault fault)) = FaultAt text fault.place fault.kind
