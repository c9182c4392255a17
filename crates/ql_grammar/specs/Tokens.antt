-- Tokens as the grammar sees them: their kinds, and what they stand for.
use Rattle.std.specs.Prelude.{ℕ, List, [], ◌∷◌, map, Option, Some, None}
use Rattle.std.specs.Str.Parse.{digits_value}
use Rattle.ql_lex.specs.declared.token.Sign.{Sign}
use Rattle.ql_lex.specs.declared.token.Token.{Token}
use Rattle.ql_lex.specs.declared.token.TokenKind.{TokenKind}
use Rattle.ql_lex.specs.declared.token.TokenKind.TheVariants as forms
use Rattle.ql_lex.specs.Shapes.{sign_of}
use Rattle.ql_lex.specs.Tokens.{Lexeme, lexeme_of}
use Rattle.ql_lex.specs.Values.{name_of, text_of}
use Rattle.ql_grammar.specs.declared.keyword.Keyword.{Keyword}
use Rattle.ql_grammar.specs.declared.kind.Kind.{Kind}
use Rattle.ql_grammar.specs.declared.kind.Kind.TheVariants as kinds
use Rattle.ql_grammar.specs.Keywords.{keyword_named}

-- the tokens, without where they lie in memory
abbrev pub lexemes : List Token → List Lexeme
lexemes tokens = map lexeme_of tokens

-- a name that may be a keyword
abbrev pub name_kind : Option Keyword → Kind
name_kind None = kinds.Name
name_kind (Some keyword) = kinds.Keyword keyword

-- a sign; tokens of a text spell one
abbrev pub sign_kind : Option Sign → Kind
sign_kind None = kinds.End
sign_kind (Some sign) = kinds.Sign sign

-- what a token of this form with these bytes is
unfoldable pub kind_by : TokenKind → List ℕ → Kind
kind_by forms.Name text = name_kind (keyword_named text)
kind_by forms.Quoted text = kinds.Name
kind_by forms.Number text = kinds.Number
kind_by forms.Text text = kinds.Text
kind_by forms.SysVar text = kinds.SysVar
kind_by forms.Sign text = sign_kind (sign_of text)
kind_by forms.End text = kinds.End

-- what a token is
abbrev pub kind : Lexeme → Kind
kind token = kind_by token.kind token.text

-- the name that a token bears, in small letters, without backquotes or `@@`
abbrev pub name_value : Lexeme → List ℕ
name_value token = name_of token.kind token.text

-- the number that a token's digits write
abbrev pub number_value : Lexeme → ℕ
number_value token = digits_value 10 token.text

-- the text that a token holds between its quotes, with its escapes resolved
abbrev pub text_value : Lexeme → List ℕ
text_value token = text_of token.text

abbrev pub first_kind : List Lexeme → Kind
first_kind [] = kinds.End
first_kind (t ∷ ts) = kind t
