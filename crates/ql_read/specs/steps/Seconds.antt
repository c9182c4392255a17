-- The token after the next one.
use Rattle.std.specs.Prelude.{List, [], ◌∷◌}
use Rattle.ql_lex.specs.Tokens.{Lexeme}
use Rattle.ql_grammar.specs.declared.kind.Kind.{Kind}
use Rattle.ql_grammar.specs.declared.kind.Kind.TheVariants as kinds
use Rattle.ql_grammar.specs.Tokens.{kind}

-- the kind of the token after the next one
abbrev pub second_kind : List Lexeme → Kind
second_kind [] = kinds.End
second_kind (t ∷ []) = kinds.End
second_kind (t ∷ u ∷ ts) = kind u
