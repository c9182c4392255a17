-- Texts that are tokens with one space between them.
use Rattle.std.specs.Prelude.{◌≡◌, ◌≢◌, ℕ, List, [], ◌∷◌, ◌++◌}
use Rattle.ql_lex.specs.declared.token.TokenKind.{TokenKind}
use Rattle.ql_lex.specs.declared.token.TokenKind.TheVariants.{End}
use Rattle.ql_lex.specs.Shapes.{IsLexeme}
use Rattle.ql_lex.specs.Tokens.{Lexeme, AreTokens, end_token}

-- a token's kind and its bytes, wherever it stands
pub record Spelling : Type 0 where
  pub kind : TokenKind
  pub bytes : List ℕ

-- The bytes are a token of the kind, which isn't the end.
pub record IsSpelling (s : Spelling) : Type 0 where
  pub lexeme : IsLexeme s.kind s.bytes
  pub other : s.kind ≢ End

abbrev pub AreSpellings : List Spelling → Type 0
AreSpellings [] = Unit {0}
AreSpellings (s ∷ list) = IsSpelling s × AreSpellings list

-- their bytes, with one space between two of them
abbrev pub spaced : List Spelling → List ℕ
spaced [] = []
spaced (s ∷ []) = s.bytes
spaced (s ∷ r ∷ list) = s.bytes ++ 32 ∷ spaced (r ∷ list)

-- The token is spelled so.
pub record IsSpelled (s : Spelling) (t : Lexeme) : Type 0 where
  pub kind : t.kind ≡ s.kind
  pub bytes : t.text ≡ s.bytes

abbrev pub AreSpelled : List Spelling → List Lexeme → Type 0
AreSpelled [] tokens = tokens ≡ []
AreSpelled (s ∷ list) [] = ⊥
AreSpelled (s ∷ list) (t ∷ tokens) = IsSpelled s t × AreSpelled list tokens

-- The tokens of the text are spelled so, and then it ends.
pub record HasTokens (text : List ℕ) (list : List Spelling) : Type 0 where
  pub front : List Lexeme
  pub are : AreTokens text (front ++ end_token text ∷ [])
  pub spelled : AreSpelled list front
