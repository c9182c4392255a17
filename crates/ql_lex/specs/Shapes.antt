-- The shapes of tokens, each by its own bytes. Past its end a list of bytes has the byte 0.
use Rattle.std.specs.Prelude.{◌≡◌, ℕ, ◌-◌, ◌^◌, ◌<◌, ◌≤◌, Bool, true, ◌==◌, ◌&&◌, ◌||◌, not, List, [], ◌∷◌, Option, Some, None, IsTrue, IsSome, if◌then◌else◌, length, drop, slice_index, slice_range}
use Rattle.std.specs.Char.{is_ascii_alphabetic, is_ascii_alphanumeric, is_ascii_digit}
use Rattle.std.specs.List.{list_all}
use Rattle.std.specs.Str.{IsUtf8}
use Rattle.std.specs.Str.Parse.{digits_value}
use Rattle.ql_lex.specs.declared.token.TokenKind.{TokenKind}
use Rattle.ql_lex.specs.declared.token.TokenKind.TheVariants.{Name, Quoted, Number, Text, SysVar, Sign, End}
use Rattle.ql_lex.specs.declared.token.Sign.{Sign as SignKind}
use Rattle.ql_lex.specs.declared.token.Sign.TheVariants as signs

-- a space, a tab, a carriage return or a line feed
abbrev pub is_blank : ℕ → Bool
is_blank b = (b == 32) || (b == 9) || (b == 13) || (b == 10)

-- a letter or `_`
abbrev pub is_letter : ℕ → Bool
is_letter b = is_ascii_alphabetic b || (b == 95)

-- a letter, a digit or `_`
abbrev pub is_name_byte : ℕ → Bool
is_name_byte b = is_ascii_alphanumeric b || (b == 95)

-- a byte of the name of a system variable: a letter, a digit, `_` or a dot
abbrev pub is_variable_byte : ℕ → Bool
is_variable_byte b = is_name_byte b || (b == 46)

-- `'` or `"`
abbrev pub is_quote : ℕ → Bool
is_quote b = (b == 39) || (b == 34)

-- a letter or `_` first, and each byte passes the test
abbrev pub is_word : (ℕ → Bool) → List ℕ → Bool
is_word test bytes = is_letter (slice_index bytes 0) && list_all test bytes

-- one decimal digit or more
abbrev pub is_digits : List ℕ → Bool
is_digits bytes = is_ascii_digit (slice_index bytes 0) && list_all is_ascii_digit bytes

-- what stands between the first byte and the last one
abbrev pub inside : List ℕ → List ℕ
inside bytes = slice_range bytes 1 (length bytes - 1)

-- The bytes begin with the quote and end with another one.
pub record IsEnclosed (quote : ℕ) (bytes : List ℕ) : Type 0 where
  pub two : 2 ≤ length bytes
  pub opens : slice_index bytes 0 ≡ quote
  pub closes : slice_index bytes (length bytes - 1) ≡ quote

-- a byte that stands for itself between quotes: neither `\` nor the quote
abbrev pub is_plain : ℕ → ℕ → Bool
is_plain quote b = not (b == 92) && not (b == quote)

-- What may stand between quotes: plain bytes, and `\` with any byte after it.
abbrev pub is_inner : ℕ → List ℕ → Bool
is_inner quote [] = true
is_inner quote (b ∷ []) = is_plain quote b
is_inner quote (b ∷ c ∷ bytes) = if b == 92 then is_inner quote bytes else (is_plain quote b && is_inner quote (c ∷ bytes))

-- a text between `'` or between `"`, whatever its characters
pub record IsQuotedText (bytes : List ℕ) : Type 0 where
  pub quote : IsTrue (is_quote (slice_index bytes 0))
  pub enclosed : IsEnclosed (slice_index bytes 0) bytes
  pub inner : IsTrue (is_inner (slice_index bytes 0) (inside bytes))

-- the sign of one byte: ( ) , ; * - = < >
abbrev pub sign_of_one : ℕ → Option SignKind
sign_of_one b =
    if b == 40 then Some signs.OpenParen else
    if b == 41 then Some signs.CloseParen else
    if b == 44 then Some signs.Comma else
    if b == 59 then Some signs.Semicolon else
    if b == 42 then Some signs.Star else
    if b == 45 then Some signs.Minus else
    if b == 61 then Some signs.Equal else
    if b == 60 then Some signs.Less else
    if b == 62 then Some signs.Greater else
    None

-- the sign of two bytes: != <> <= >=
abbrev pub sign_of_two : ℕ → ℕ → Option SignKind
sign_of_two a b =
    if (a == 33) && (b == 61) then Some signs.NotEqual else
    if (a == 60) && (b == 62) then Some signs.NotEqual else
    if (a == 60) && (b == 61) then Some signs.LessOrEqual else
    if (a == 62) && (b == 61) then Some signs.GreaterOrEqual else
    None

-- the sign that the bytes spell
abbrev pub sign_of : List ℕ → Option SignKind
sign_of [] = None
sign_of (a ∷ []) = sign_of_one a
sign_of (a ∷ b ∷ []) = sign_of_two a b
sign_of (a ∷ b ∷ c ∷ bytes) = None

-- the name in a token: without its backquotes, and without `@@`
abbrev pub bare_name : TokenKind → List ℕ → List ℕ
bare_name Name bytes = bytes
bare_name Quoted bytes = inside bytes
bare_name SysVar bytes = drop 2 bytes
bare_name _ bytes = []

-- a token with a name, however long the name is
abbrev pub IsNamed : TokenKind → List ℕ → Type 0
IsNamed Name bytes = IsTrue (is_word is_name_byte bytes)
IsNamed Quoted bytes = IsEnclosed 96 bytes × IsTrue (is_word is_name_byte (inside bytes))
IsNamed SysVar bytes = (slice_index bytes 0 ≡ 64) × (slice_index bytes 1 ≡ 64) × IsTrue (is_word is_variable_byte (drop 2 bytes))
IsNamed _ bytes = ⊥

-- The bytes are a token of this kind.
abbrev pub IsLexeme : TokenKind → List ℕ → Type 0
IsLexeme Name bytes = IsNamed Name bytes × (length (bare_name Name bytes) ≤ 64)
IsLexeme Quoted bytes = IsNamed Quoted bytes × (length (bare_name Quoted bytes) ≤ 64)
IsLexeme SysVar bytes = IsNamed SysVar bytes × (length (bare_name SysVar bytes) ≤ 64)
IsLexeme Number bytes = IsTrue (is_digits bytes) × (digits_value 10 bytes < 2 ^ 64)
IsLexeme Text bytes = IsQuotedText bytes × IsUtf8 (inside bytes)
IsLexeme Sign bytes = IsSome (sign_of bytes)
IsLexeme End bytes = bytes ≡ []
