-- The tokens of a statement.
use Rattle.std.specs.Prelude.{ℕ, Bool, true, false, List}
use Rattle.ql_lex.specs.declared.token.Sign.TheVariants as signs
use Rattle.ql_lex.specs.Tokens.{Lexeme}
use Rattle.ql_grammar.specs.declared.keyword.Keyword.TheVariants as keywords
use Rattle.ql_tree.specs.declared.statement.Ids.{Ids}
use Rattle.ql_tree.specs.declared.statement.Ids.TheVariants as ids
use Rattle.ql_tree.specs.declared.statement.Plain.{Plain}
use Rattle.ql_tree.specs.declared.statement.Plain.TheVariants as plains
use Rattle.ql_tree.specs.declared.statement.Scope.{Scope}
use Rattle.ql_tree.specs.declared.statement.Scope.TheVariants as scopes
use Rattle.ql_tree.specs.declared.statement.SetValue.{SetValue}
use Rattle.ql_tree.specs.declared.statement.SetValue.TheVariants as settings
use Rattle.ql_tree.specs.declared.statement.Statement.{Statement}
use Rattle.ql_tree.specs.declared.statement.Statement.TheVariants as statements
use Rattle.ql_tree.specs.declared.statement.Target.{Target}
use Rattle.ql_tree.specs.declared.statement.Target.TheVariants as targets
use Rattle.ql_tree.specs.declared.statement.Val.{Val}
use Rattle.ql_tree.specs.declared.statement.Val.TheVariants as vals
use Rattle.ql_grammar.specs.Parts.{IsKeyword, AreKeywords, IsSign, IsComma, IsName, IsNumber, IsTargetName, IsText, IsVariable, IsWhole, IsEnclosed, AreParens}
use Rattle.token_grammar.specs.Values.{◌then◌, IsAbsent, IsGiven, AreListed}
use Rattle.ql_grammar.specs.Selects.{IsSelect}

-- num | text
abbrev pub IsVal : Val → List Lexeme → Type 0
IsVal (vals.Number z) = IsWhole z
IsVal (vals.Text text) = IsText text

-- INSERT | REPLACE
abbrev pub IsPut : Bool → List Lexeme → Type 0
IsPut true = IsKeyword keywords.Replace
IsPut false = IsKeyword keywords.Insert

-- = n | IN (n, ..)
abbrev pub AreIds : Ids → List Lexeme → Type 0
AreIds (ids.One n) = IsSign signs.Equal then IsNumber n
AreIds (ids.Several ns) = IsKeyword keywords.In then IsEnclosed (AreListed IsComma IsNumber ns)

-- name | text
abbrev pub IsPlain : Plain → List Lexeme → Type 0
IsPlain (plains.Name name) = IsName name
IsPlain (plains.Text text) = IsText text

-- [GLOBAL | SESSION]
abbrev pub IsScope : Scope → List Lexeme → Type 0
IsScope scopes.Absent = IsAbsent
IsScope scopes.Global = IsKeyword keywords.Global
IsScope scopes.Session = IsKeyword keywords.Session

-- name | sysvar, where the name is neither AUTOCOMMIT nor NAMES, unless it stands between backquotes
abbrev pub IsTarget : Target → List Lexeme → Type 0
IsTarget (targets.Name name) = IsTargetName name
IsTarget (targets.Var name) = IsVariable name

-- name | num | text | NULL
abbrev pub IsSetting : SetValue → List Lexeme → Type 0
IsSetting (settings.Name name) = IsName name
IsSetting (settings.Number z) = IsWhole z
IsSetting (settings.Text text) = IsText text
IsSetting settings.Null = IsKeyword keywords.Null

-- ( name, .. )
abbrev pub AreColumns : List (List ℕ) → List Lexeme → Type 0
AreColumns names = IsEnclosed (AreListed IsComma IsName names)

-- ( val, .. )
abbrev pub IsRow : List Val → List Lexeme → Type 0
IsRow row = IsEnclosed (AreListed IsComma IsVal row)

-- LIMIT n
abbrev pub IsRowLimit : ℕ → List Lexeme → Type 0
IsRowLimit n = IsKeyword keywords.Limit then IsNumber n

abbrev pub IsStatement : Statement → List Lexeme → Type 0
IsStatement (statements.Select select) = IsSelect select
-- SELECT sysvar [LIMIT n]
IsStatement (statements.SelectVar name limit) = IsKeyword keywords.Select then IsVariable name then IsGiven IsRowLimit limit
-- SELECT DATABASE ( )
IsStatement statements.SelectDatabase = IsKeyword keywords.Select then IsKeyword keywords.Database then AreParens
-- (INSERT | REPLACE) INTO name [( name, .. )] VALUES ( val, .. ) (, ( val, .. ))*
IsStatement (statements.Insert replace index columns rows) =
    IsPut replace then IsKeyword keywords.Into then IsName index
    then IsGiven AreColumns columns
    then IsKeyword keywords.Values then AreListed IsComma IsRow rows
-- DELETE FROM name WHERE ID = n | DELETE FROM name WHERE ID IN (n, ..)
IsStatement (statements.Delete index which) =
    AreKeywords keywords.Delete keywords.From then IsName index then AreKeywords keywords.Where keywords.Id then AreIds which
IsStatement statements.Begin = IsKeyword keywords.Begin
IsStatement statements.StartTransaction = AreKeywords keywords.Start keywords.Transaction
IsStatement statements.Commit = IsKeyword keywords.Commit
IsStatement statements.Rollback = IsKeyword keywords.Rollback
-- SET AUTOCOMMIT = n
IsStatement (statements.SetAutocommit n) = IsKeyword keywords.Set then IsKeyword keywords.Autocommit then IsSign signs.Equal then IsNumber n
-- SET NAMES (name | text)
IsStatement (statements.SetNames plain) = IsKeyword keywords.Set then IsKeyword keywords.Names then IsPlain plain
-- SET [GLOBAL | SESSION] (name | sysvar) = (name | num | text | NULL)
IsStatement (statements.SetOther scope target value) =
    IsKeyword keywords.Set then IsScope scope then IsTarget target then IsSign signs.Equal then IsSetting value
IsStatement (statements.FlushRamchunk name) = IsKeyword keywords.Flush then IsKeyword keywords.RamChunk then IsName name
IsStatement (statements.FlushRtindex name) = IsKeyword keywords.Flush then IsKeyword keywords.RtIndex then IsName name
IsStatement (statements.OptimizeIndex name) = AreKeywords keywords.Optimize keywords.Index then IsName name
IsStatement (statements.TruncateRtindex name) = AreKeywords keywords.Truncate keywords.RtIndex then IsName name
IsStatement (statements.Describe name) = IsKeyword keywords.Describe then IsName name
IsStatement (statements.ShowIndexStatus name) = IsKeyword keywords.Show then IsKeyword keywords.Index then IsName name then IsKeyword keywords.Status
IsStatement statements.ShowMeta = AreKeywords keywords.Show keywords.Meta
IsStatement statements.ShowTables = AreKeywords keywords.Show keywords.Tables
IsStatement statements.ShowWarnings = AreKeywords keywords.Show keywords.Warnings
IsStatement statements.ShowVariables = AreKeywords keywords.Show keywords.Variables
IsStatement statements.ShowDatabases = AreKeywords keywords.Show keywords.Databases
