-- What the cursor says of the next tokens.
use Rattle.std.specs.Prelude.{◌≡◌, List, ◌∷◌, Bool, false}
use Rattle.ql_lex.specs.Tokens.{Lexeme}
use Rattle.ql_grammar.specs.declared.kind.Kind.{Kind}
use Rattle.ql_grammar.specs.declared.kind.Kind.TheVariants as kinds
use Rattle.ql_grammar.specs.Keywords.{begins_statement}
use Rattle.ql_grammar.specs.Tokens.{kind}

-- the next token is of this kind
pub record IsNext (k : Kind) (tokens : List Lexeme) : Type 0 where
  pub next : Lexeme
  pub rest : List Lexeme
  pub is : tokens ≡ next ∷ rest
  pub kind_is : kind next ≡ k

-- a statement begins with a token of this kind
abbrev pub is_start : Kind → Bool
is_start (kinds.Keyword w) = begins_statement w
is_start _ = false

-- Whether the next token is one with which a statement begins.
pub record IsStart (tokens : List Lexeme) (answer : Bool) : Type 0 where
  pub next : Lexeme
  pub rest : List Lexeme
  pub is : tokens ≡ next ∷ rest
  pub starts : is_start (kind next) ≡ answer
