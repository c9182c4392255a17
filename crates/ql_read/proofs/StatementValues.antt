-- The tokens of statements, put together.
use Rattle.std.proofs.Common.{List}
use Rattle.ql_lex.specs.Tokens.{Lexeme}
use Rattle.ql_grammar.specs.declared.keyword.Keyword.TheVariants as keywords
use Rattle.ql_tree.specs.declared.statement.Statement.{Statement}
use Rattle.ql_tree.specs.declared.statement.Statement.TheVariants as statements
use Rattle.ql_grammar.specs.Parts.{IsKeyword}
use Rattle.token_grammar.specs.Values.{◌then◌}
use Rattle.ql_grammar.specs.Statements.{IsStatement}
use Rattle.ql_grammar.specs.steps.Stating.{IsSelection, IsSetRest, IsShown}

pub set_is : (s : Statement) (u : List Lexeme) → (IsKeyword keywords.Set then IsSetRest s) u → IsStatement s u
set_is (statements.Select a0) u (a, b, e, p, q) = absurd q
set_is (statements.SelectVar a0 a1) u (a, b, e, p, q) = absurd q
set_is statements.SelectDatabase u (a, b, e, p, q) = absurd q
set_is (statements.Insert a0 a1 a2 a3) u (a, b, e, p, q) = absurd q
set_is (statements.Delete a0 a1) u (a, b, e, p, q) = absurd q
set_is statements.Begin u (a, b, e, p, q) = absurd q
set_is statements.StartTransaction u (a, b, e, p, q) = absurd q
set_is statements.Commit u (a, b, e, p, q) = absurd q
set_is statements.Rollback u (a, b, e, p, q) = absurd q
set_is (statements.SetAutocommit a0) u h = h
set_is (statements.SetNames a0) u h = h
set_is (statements.SetOther a0 a1 a2) u h = h
set_is (statements.FlushRamchunk a0) u (a, b, e, p, q) = absurd q
set_is (statements.FlushRtindex a0) u (a, b, e, p, q) = absurd q
set_is (statements.OptimizeIndex a0) u (a, b, e, p, q) = absurd q
set_is (statements.TruncateRtindex a0) u (a, b, e, p, q) = absurd q
set_is (statements.Describe a0) u (a, b, e, p, q) = absurd q
set_is (statements.ShowIndexStatus a0) u (a, b, e, p, q) = absurd q
set_is statements.ShowMeta u (a, b, e, p, q) = absurd q
set_is statements.ShowTables u (a, b, e, p, q) = absurd q
set_is statements.ShowWarnings u (a, b, e, p, q) = absurd q
set_is statements.ShowVariables u (a, b, e, p, q) = absurd q
set_is statements.ShowDatabases u (a, b, e, p, q) = absurd q

pub show_is : (s : Statement) (u : List Lexeme) → (IsKeyword keywords.Show then IsShown s) u → IsStatement s u
show_is (statements.Select a0) u (a, b, e, p, q) = absurd q
show_is (statements.SelectVar a0 a1) u (a, b, e, p, q) = absurd q
show_is statements.SelectDatabase u (a, b, e, p, q) = absurd q
show_is (statements.Insert a0 a1 a2 a3) u (a, b, e, p, q) = absurd q
show_is (statements.Delete a0 a1) u (a, b, e, p, q) = absurd q
show_is statements.Begin u (a, b, e, p, q) = absurd q
show_is statements.StartTransaction u (a, b, e, p, q) = absurd q
show_is statements.Commit u (a, b, e, p, q) = absurd q
show_is statements.Rollback u (a, b, e, p, q) = absurd q
show_is (statements.SetAutocommit a0) u (a, b, e, p, q) = absurd q
show_is (statements.SetNames a0) u (a, b, e, p, q) = absurd q
show_is (statements.SetOther a0 a1 a2) u (a, b, e, p, q) = absurd q
show_is (statements.FlushRamchunk a0) u (a, b, e, p, q) = absurd q
show_is (statements.FlushRtindex a0) u (a, b, e, p, q) = absurd q
show_is (statements.OptimizeIndex a0) u (a, b, e, p, q) = absurd q
show_is (statements.TruncateRtindex a0) u (a, b, e, p, q) = absurd q
show_is (statements.Describe a0) u (a, b, e, p, q) = absurd q
show_is (statements.ShowIndexStatus a0) u h = h
show_is statements.ShowMeta u h = h
show_is statements.ShowTables u h = h
show_is statements.ShowWarnings u h = h
show_is statements.ShowVariables u h = h
show_is statements.ShowDatabases u h = h

pub selection_is : (s : Statement) (u : List Lexeme) → (IsKeyword keywords.Select then IsSelection s) u → IsStatement s u
selection_is (statements.Select a0) u h = h
selection_is (statements.SelectVar a0 a1) u h = h
selection_is statements.SelectDatabase u h = h
selection_is (statements.Insert a0 a1 a2 a3) u (a, b, e, p, q) = absurd q
selection_is (statements.Delete a0 a1) u (a, b, e, p, q) = absurd q
selection_is statements.Begin u (a, b, e, p, q) = absurd q
selection_is statements.StartTransaction u (a, b, e, p, q) = absurd q
selection_is statements.Commit u (a, b, e, p, q) = absurd q
selection_is statements.Rollback u (a, b, e, p, q) = absurd q
selection_is (statements.SetAutocommit a0) u (a, b, e, p, q) = absurd q
selection_is (statements.SetNames a0) u (a, b, e, p, q) = absurd q
selection_is (statements.SetOther a0 a1 a2) u (a, b, e, p, q) = absurd q
selection_is (statements.FlushRamchunk a0) u (a, b, e, p, q) = absurd q
selection_is (statements.FlushRtindex a0) u (a, b, e, p, q) = absurd q
selection_is (statements.OptimizeIndex a0) u (a, b, e, p, q) = absurd q
selection_is (statements.TruncateRtindex a0) u (a, b, e, p, q) = absurd q
selection_is (statements.Describe a0) u (a, b, e, p, q) = absurd q
selection_is (statements.ShowIndexStatus a0) u (a, b, e, p, q) = absurd q
selection_is statements.ShowMeta u (a, b, e, p, q) = absurd q
selection_is statements.ShowTables u (a, b, e, p, q) = absurd q
selection_is statements.ShowWarnings u (a, b, e, p, q) = absurd q
selection_is statements.ShowVariables u (a, b, e, p, q) = absurd q
selection_is statements.ShowDatabases u (a, b, e, p, q) = absurd q
