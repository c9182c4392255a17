-- The tokens of the parts of a SELECT, put together.
use Rattle.std.proofs.Common.{ℕ, List, Option, Some, None}
use Rattle.ql_lex.specs.Tokens.{Lexeme}
use Rattle.ql_grammar.specs.declared.keyword.Keyword.TheVariants as keywords
use Rattle.ql_grammar.specs.Parts.{IsKeyword, IsName, IsEnclosed}
use Rattle.token_grammar.specs.Values.{◌then◌, IsGiven}
use Rattle.ql_grammar.specs.Selects.{IsArgument, IsExpr, IsOptionValue}
use Rattle.ql_grammar.specs.steps.Selecting.{IsCounted, count_expr, named_value}
use Rattle.ql_grammar.proofs.SelectAgreement.{before_nothing}

pub counting_is : (name : Option (List ℕ)) (u : List Lexeme) → (IsKeyword keywords.Count then IsEnclosed (IsCounted name)) u → IsExpr (count_expr name) u
counting_is None u h = h
counting_is (Some name) u h = h

pub named_is : (bytes : List ℕ) (argument : Option (List ℕ)) (u : List Lexeme) → (IsName bytes then IsGiven IsArgument argument) u → IsOptionValue (named_value bytes argument) u
named_is bytes None u h = before_nothing (IsName bytes) u h
named_is bytes (Some text) u h = h
