-- Parts of a SELECT, as its readers take them.
use Rattle.std.specs.Prelude.{ℕ, List, Option, Some, None}
use Rattle.ql_lex.specs.declared.token.Sign.TheVariants as signs
use Rattle.ql_lex.specs.Tokens.{Lexeme}
use Rattle.ql_grammar.specs.declared.keyword.Keyword.TheVariants as keywords
use Rattle.ql_tree.specs.declared.select.OptionValue.{OptionValue}
use Rattle.ql_tree.specs.declared.select.OptionValue.TheVariants as values
use Rattle.ql_tree.specs.declared.select.SelectExpr.{SelectExpr}
use Rattle.ql_tree.specs.declared.select.SelectExpr.TheVariants as exprs
use Rattle.ql_grammar.specs.Parts.{IsKeyword, IsSign, IsName}
use Rattle.token_grammar.specs.Values.{◌then◌}

-- * | DISTINCT name
abbrev pub IsCounted : Option (List ℕ) → List Lexeme → Type 0
IsCounted None = IsSign signs.Star
IsCounted (Some name) = IsKeyword keywords.Distinct then IsName name

-- the count of all, or of the distinct values of a column
abbrev pub count_expr : Option (List ℕ) → SelectExpr
count_expr None = exprs.CountAll
count_expr (Some name) = exprs.CountDistinct name

-- the name alone, or its call with the text
abbrev pub named_value : List ℕ → Option (List ℕ) → OptionValue
named_value bytes None = values.Name bytes
named_value bytes (Some text) = values.Call bytes text
