-- What the reader of a comparison says of the next token.
use Rattle.std.specs.Prelude.{true, false, List, Option, Some, None}
use Rattle.ql_lex.specs.Tokens.{Lexeme}
use Rattle.ql_tree.specs.declared.select.Comparison.{Comparison}
use Rattle.ql_grammar.specs.Classes.{the_sign, a_comparison}
use Rattle.token_grammar.specs.Reading.{IsNextOf}
use Rattle.ql_grammar.specs.Selects.{comparison_sign}
use Rattle.ql_grammar.specs.Alphabet.{sphinxql}

-- the comparison that the next token is
abbrev pub IsNextComparison : Option Comparison → List Lexeme → Type 0
IsNextComparison None tokens = IsNextOf sphinxql a_comparison tokens false
IsNextComparison (Some op) tokens = IsNextOf sphinxql (the_sign (comparison_sign op)) tokens true
