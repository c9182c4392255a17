-- What follows the first keyword of a statement.
use Rattle.std.specs.Prelude.{List}
use Rattle.ql_lex.specs.declared.token.Sign.TheVariants as signs
use Rattle.ql_lex.specs.Tokens.{Lexeme}
use Rattle.ql_grammar.specs.declared.keyword.Keyword.TheVariants as keywords
use Rattle.ql_tree.specs.declared.statement.SetValue.{SetValue}
use Rattle.ql_tree.specs.declared.statement.Statement.{Statement}
use Rattle.ql_tree.specs.declared.statement.Statement.TheVariants as statements
use Rattle.ql_tree.specs.declared.statement.Target.{Target}
use Rattle.ql_grammar.specs.Parts.{IsKeyword, IsSign, IsName, IsNumber, IsVariable, AreParens}
use Rattle.token_grammar.specs.Values.{◌then◌, IsGiven}
use Rattle.ql_grammar.specs.Selects.{IsSelected}
use Rattle.ql_grammar.specs.Statements.{IsPlain, IsScope, IsTarget, IsSetting, IsRowLimit}

-- (name | sysvar) = (name | num | text | NULL)
abbrev pub IsAssignment : Target × SetValue → List Lexeme → Type 0
IsAssignment pair = IsTarget pair.0 then IsSign signs.Equal then IsSetting pair.1

-- what follows the keyword SET
abbrev pub IsSetRest : Statement → List Lexeme → Type 0
IsSetRest (statements.SetAutocommit n) = IsKeyword keywords.Autocommit then IsSign signs.Equal then IsNumber n
IsSetRest (statements.SetNames plain) = IsKeyword keywords.Names then IsPlain plain
IsSetRest (statements.SetOther scope target value) = IsScope scope then IsTarget target then IsSign signs.Equal then IsSetting value
IsSetRest _ = λ u. ⊥

-- what follows the keyword SHOW
abbrev pub IsShown : Statement → List Lexeme → Type 0
IsShown (statements.ShowIndexStatus name) = IsKeyword keywords.Index then IsName name then IsKeyword keywords.Status
IsShown statements.ShowMeta = IsKeyword keywords.Meta
IsShown statements.ShowTables = IsKeyword keywords.Tables
IsShown statements.ShowWarnings = IsKeyword keywords.Warnings
IsShown statements.ShowVariables = IsKeyword keywords.Variables
IsShown statements.ShowDatabases = IsKeyword keywords.Databases
IsShown _ = λ u. ⊥

-- what follows the keyword SELECT
abbrev pub IsSelection : Statement → List Lexeme → Type 0
IsSelection (statements.Select select) = IsSelected select
IsSelection (statements.SelectVar name limit) = IsVariable name then IsGiven IsRowLimit limit
IsSelection statements.SelectDatabase = IsKeyword keywords.Database then AreParens
IsSelection _ = λ u. ⊥
