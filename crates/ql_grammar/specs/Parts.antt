-- What the parts of a text say: tokens that are these words, this name, this number, and lists of them.
use Rattle.std.specs.Prelude.{◌≡◌, ℕ, ℤ, pos, neg_ℤ, List, IsTrue, ◌⊎◌}
use Rattle.ql_lex.specs.declared.token.Sign.{Sign}
use Rattle.ql_lex.specs.declared.token.Sign.TheVariants as signs
use Rattle.ql_lex.specs.Tokens.{Lexeme}
use Rattle.ql_grammar.specs.declared.keyword.Keyword.{Keyword}
use Rattle.ql_grammar.specs.declared.keyword.Keyword.TheVariants as keywords
use Rattle.ql_grammar.specs.declared.kind.Kind.TheVariants as kinds
use Rattle.ql_grammar.specs.Tokens.{kind, name_value, number_value, text_value}
use Rattle.ql_grammar.specs.Classes.{fits, is_name, name_but}
use Rattle.token_grammar.specs.Values.{◌then◌, IsOne}

abbrev pub IsKeyword : Keyword → List Lexeme → Type 0
IsKeyword w = IsOne (λ t. kind t ≡ kinds.Keyword w)

-- two keywords in a row
abbrev pub AreKeywords : Keyword → Keyword → List Lexeme → Type 0
AreKeywords v w = IsKeyword v then IsKeyword w

abbrev pub IsSign : Sign → List Lexeme → Type 0
IsSign s = IsOne (λ t. kind t ≡ kinds.Sign s)

abbrev pub IsComma : List Lexeme → Type 0
IsComma = IsSign signs.Comma

-- a name, in small letters: any name but a reserved keyword
abbrev pub IsName : List ℕ → List Lexeme → Type 0
IsName name = IsOne (λ t. IsTrue (is_name (kind t)) × (name ≡ name_value t))

-- a name with which no other form of SET begins
abbrev pub IsTargetName : List ℕ → List Lexeme → Type 0
IsTargetName name = IsOne (λ t. IsTrue (fits (name_but keywords.Autocommit keywords.Names) (kind t)) × (name ≡ name_value t))

abbrev pub IsNumber : ℕ → List Lexeme → Type 0
IsNumber n = IsOne (λ t. (kind t ≡ kinds.Number) × (n ≡ number_value t))

abbrev pub IsText : List ℕ → List Lexeme → Type 0
IsText text = IsOne (λ t. (kind t ≡ kinds.Text) × (text ≡ text_value t))

-- a system variable, by its name without `@@`
abbrev pub IsVariable : List ℕ → List Lexeme → Type 0
IsVariable name = IsOne (λ t. (kind t ≡ kinds.SysVar) × (name ≡ name_value t))

-- a number, maybe behind a `-`
abbrev pub IsWhole : ℤ → List Lexeme → Type 0
IsWhole z u =
    ((n : ℕ) × (z ≡ pos n) × IsNumber n u)
    ⊎ ((n : ℕ) × (z ≡ neg_ℤ (pos n)) × (IsSign signs.Minus then IsNumber n) u)

-- in parentheses
abbrev pub IsEnclosed : (List Lexeme → Type 0) → List Lexeme → Type 0
IsEnclosed P = IsSign signs.OpenParen then P then IsSign signs.CloseParen

-- nothing in parentheses
abbrev pub AreParens : List Lexeme → Type 0
AreParens = IsSign signs.OpenParen then IsSign signs.CloseParen
