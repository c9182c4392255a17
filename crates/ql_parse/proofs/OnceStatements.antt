-- The tokens of a statement stand for one only, line by line.
use Rattle.std.proofs.Common.{◌≡◌, ℕ, List, [], ◌∷◌, Bool, true, false, ◌⊎◌, inl, inr, refl}
use Rattle.std.specs.Prelude.{ℤ}
use Rattle.ql_lex.specs.declared.token.Sign.TheVariants as signs
use Rattle.ql_lex.specs.Tokens.{Lexeme}
use Rattle.ql_grammar.specs.declared.keyword.Keyword.{Keyword}
use Rattle.ql_grammar.specs.declared.keyword.Keyword.TheVariants as keywords
use Rattle.ql_tree.specs.declared.statement.Ids.{Ids}
use Rattle.ql_tree.specs.declared.statement.Ids.TheVariants as numbers
use Rattle.ql_tree.specs.declared.statement.Plain.{Plain}
use Rattle.ql_tree.specs.declared.statement.Plain.TheVariants as plains
use Rattle.ql_tree.specs.declared.statement.Scope.{Scope}
use Rattle.ql_tree.specs.declared.statement.Scope.TheVariants as scopes
use Rattle.ql_tree.specs.declared.statement.SetValue.{SetValue}
use Rattle.ql_tree.specs.declared.statement.SetValue.TheVariants as settings
use Rattle.ql_tree.specs.declared.statement.Statement.{Statement}
use Rattle.ql_tree.specs.declared.statement.Statement.TheVariants as statements
use Rattle.ql_tree.specs.declared.statement.Target.{Target}
use Rattle.ql_tree.specs.declared.statement.Target.TheVariants as targets
use Rattle.ql_tree.specs.declared.statement.Val.{Val}
use Rattle.ql_tree.specs.declared.statement.Val.TheVariants as vals
use Rattle.ql_grammar.specs.Classes.{the_sign}
use Rattle.ql_grammar.specs.Terminals.{keyword, sysvar, target_name}
use Rattle.ql_grammar.specs.steps.Grammar.{select_variable, select_database, select, val, insert, ids, plain, setting, assignment, scoped, set_rest, shown, statement}
use Rattle.token_grammar.specs.Language.{◌⨾◌, ◌∣◌}
use Rattle.ql_grammar.specs.Parts.{IsKeyword, IsSign, IsComma, IsName, IsNumber, IsTargetName, IsText, IsVariable, IsWhole, IsEnclosed}
use Rattle.token_grammar.specs.Values.{◌then◌, AreListed}
use Rattle.ql_grammar.specs.steps.GoingOn.{select_goes_on}
use Rattle.ql_grammar.specs.Statements.{IsVal, IsPut, AreIds, IsPlain, IsScope, IsTarget, IsSetting, IsStatement}
use Rattle.ql_grammar.specs.steps.Stating.{IsAssignment}
use Rattle.token_grammar.proofs.Agreement.{IsEither}
use Rattle.token_grammar.proofs.Once.{Once, once_as, once_after, once_before, once_seq, once_wider}
use Rattle.token_grammar.proofs.OnceChoices.{Parted, once_either, once_listed, once_optional, parted_after, parted_choice, parted_first, parted_right, parted_two}
use Rattle.ql_parse.proofs.OnceParts.{once_enclosed, once_name, once_number, once_parens, once_sign, once_target_name, once_text, once_variable, once_whole, once_keyword, once_keywords}
use Rattle.ql_parse.proofs.OnceSelects.{once_select}
use Rattle.ql_grammar.proofs.StatementRows.{SettingRow, SettingValue, IsSettingPart, after_null, setting_part, all_settings, SelectRow, Selected, IsSelection, after_variable, selected, all_selected, IsScoped, after_global, in_scope, all_scoped, in_no_scope, SetRow, Set, IsSet, after_autocommit, set_part, all_set, ShowRow, Shown, IsShown, after_index_status, show_part, all_shown, FlushRow, IsFlushed, after_ramchunk, flush_part, all_flushed, IsInserted, Row, Stated, IsStated, after_select, stated, all_stated}
use Rattle.token_grammar.proofs.NamedChoices.{once_named, parted_firsts}
use Rattle.ql_grammar.specs.Alphabet.{sphinxql}

-- Values, and the documents of a DELETE.
once_val : Once sphinxql val [] IsVal
once_val = once_as (once_either once_text once_whole refl refl refl) value back
  where
    value : List ℕ ⊎ ℤ → Val
    value (inl text) = vals.Text text
    value (inr z) = vals.Number z

    back : (y : Val) (u : List Lexeme) → IsVal y u → (x : List ℕ ⊎ ℤ) × IsEither IsText IsWhole x u × (value x ≡ y)
    back (vals.Text text) u h = (inl text, h, refl)
    back (vals.Number z) u h = (inr z, h, refl)

once_put : Once sphinxql (keyword keywords.Replace ∣ keyword keywords.Insert) [] IsPut
once_put = once_as (once_either (once_keyword keywords.Replace) (once_keyword keywords.Insert) refl refl refl) value back
  where
    value : Unit {0} ⊎ Unit {0} → Bool
    value (inl _) = true
    value (inr _) = false

    back : (y : Bool) (u : List Lexeme) → IsPut y u → (x : Unit {0} ⊎ Unit {0}) × IsEither (λ _. IsKeyword keywords.Replace) (λ _. IsKeyword keywords.Insert) x u × (value x ≡ y)
    back true u h = (inl tt, h, refl)
    back false u h = (inr tt, h, refl)

once_ids : Once sphinxql ids [] AreIds
once_ids = once_as
    (once_either (once_after (once_sign signs.Equal) once_number refl)
    (once_after (once_keyword keywords.In) (once_enclosed (once_listed (once_sign signs.Comma) once_number refl refl) refl) refl) refl refl refl)
    value back
  where
    Is : ℕ ⊎ List ℕ → List Lexeme → Type 0
    Is = IsEither (λ n. IsSign signs.Equal then IsNumber n) (λ ns. IsKeyword keywords.In then IsEnclosed (AreListed IsComma IsNumber ns))

    value : ℕ ⊎ List ℕ → Ids
    value (inl n) = numbers.One n
    value (inr ns) = numbers.Several ns

    back : (y : Ids) (u : List Lexeme) → AreIds y u → (x : ℕ ⊎ List ℕ) × Is x u × (value x ≡ y)
    back (numbers.One n) u h = (inl n, h, refl)
    back (numbers.Several ns) u h = (inr ns, h, refl)

-- SET.
once_plain : Once sphinxql plain [] IsPlain
once_plain = once_as (once_either once_text once_name refl refl refl) value back
  where
    value : List ℕ ⊎ List ℕ → Plain
    value (inl text) = plains.Text text
    value (inr name) = plains.Name name

    back : (y : Plain) (u : List Lexeme) → IsPlain y u → (x : List ℕ ⊎ List ℕ) × IsEither IsText IsName x u × (value x ≡ y)
    back (plains.Text text) u h = (inl text, h, refl)
    back (plains.Name name) u h = (inr name, h, refl)

once_setting : Once sphinxql setting [] IsSetting
once_setting = once_as
    (once_named SettingRow.null after_null all_settings (parted_firsts sphinxql [] setting_part SettingRow.null after_null refl) by_row)
    value back
  where
    by_row : (row : SettingRow) → Once sphinxql (setting_part row) [] (IsSettingPart row)
    by_row SettingRow.null = once_keyword keywords.Null
    by_row SettingRow.a_text = once_text
    by_row SettingRow.a_name = once_name
    by_row SettingRow.a_number = once_whole

    value : (row : SettingRow) × SettingValue row → SetValue
    value (SettingRow.null, _) = settings.Null
    value (SettingRow.a_text, text) = settings.Text text
    value (SettingRow.a_name, name) = settings.Name name
    value (SettingRow.a_number, z) = settings.Number z

    back : (y : SetValue) (u : List Lexeme) → IsSetting y u → (x : (row : SettingRow) × SettingValue row) × IsSettingPart x.0 x.1 u × (value x ≡ y)
    back settings.Null u h = ((SettingRow.null, tt), h, refl)
    back (settings.Text text) u h = ((SettingRow.a_text, text), h, refl)
    back (settings.Name name) u h = ((SettingRow.a_name, name), h, refl)
    back (settings.Number z) u h = ((SettingRow.a_number, z), h, refl)

once_target : Once sphinxql (sysvar ∣ target_name) [] IsTarget
once_target = once_as (once_either once_variable once_target_name refl refl refl) value back
  where
    value : List ℕ ⊎ List ℕ → Target
    value (inl name) = targets.Var name
    value (inr name) = targets.Name name

    back : (y : Target) (u : List Lexeme) → IsTarget y u → (x : List ℕ ⊎ List ℕ) × IsEither IsVariable IsTargetName x u × (value x ≡ y)
    back (targets.Var name) u h = (inl name, h, refl)
    back (targets.Name name) u h = (inr name, h, refl)

once_assignment : Once sphinxql assignment [] IsAssignment
once_assignment = once_seq once_target (once_after (once_sign signs.Equal) once_setting refl) refl

-- What follows the first words of the statements.
once_selection : Once sphinxql (select_variable ∣ select_database ∣ select) select_goes_on (λ (x : (row : SelectRow) × Selected row). IsSelection x.0 x.1)
once_selection = once_named SelectRow.variable after_variable all_selected (parted_first refl refl refl, (parted_two refl refl, tt)) by_row
  where
    by_row : (row : SelectRow) → Once sphinxql (selected row) select_goes_on (IsSelection row)
    by_row SelectRow.variable = once_wider (once_seq once_variable (once_optional (once_after (once_keyword keywords.Limit) once_number refl) refl) refl) refl
    by_row SelectRow.database = once_wider (once_after (once_keyword keywords.Database) once_parens refl) refl
    by_row SelectRow.from_index = once_select

-- a scope is a name where `=` follows it
once_scoped : Once sphinxql scoped [] (λ (x : Scope × (Target × SetValue)). IsScope x.0 then IsAssignment x.1)
once_scoped = once_as (once_named scopes.Global after_global all_scoped (parted_right (parted_first refl refl refl) name_apart, (name_apart, tt)) by_row) (λ x. x) back
  where
    name_apart : {w : Keyword} → Parted sphinxql [] (keyword w ⨾ assignment) assignment
    name_apart = parted_choice (parted_first refl refl refl) (parted_after (parted_first refl refl refl))

    by_row : (scope : Scope) → Once sphinxql (in_scope scope) [] (IsScoped scope)
    by_row scopes.Global = once_after (once_keyword keywords.Global) once_assignment refl
    by_row scopes.Session = once_after (once_keyword keywords.Session) once_assignment refl
    by_row scopes.Absent = once_assignment

    back : (y : Scope × (Target × SetValue)) (u : List Lexeme) → (IsScope y.0 then IsAssignment y.1) u → (x : Scope × (Target × SetValue)) × IsScoped x.0 x.1 u × (x ≡ y)
    back (scopes.Global, pair) u h = ((scopes.Global, pair), h, refl)
    back (scopes.Session, pair) u h = ((scopes.Session, pair), h, refl)
    back (scopes.Absent, pair) u h = ((scopes.Absent, pair), in_no_scope pair u h, refl)

once_set_rest : Once sphinxql set_rest [] (λ (x : (row : SetRow) × Set row). IsSet x.0 x.1)
once_set_rest = once_named SetRow.autocommit after_autocommit all_set (parted_firsts sphinxql [] set_part SetRow.autocommit after_autocommit refl) by_row
  where
    by_row : (row : SetRow) → Once sphinxql (set_part row) [] (IsSet row)
    by_row SetRow.autocommit = once_after (once_keyword keywords.Autocommit) (once_after (once_sign signs.Equal) once_number refl) refl
    by_row SetRow.names = once_after (once_keyword keywords.Names) once_plain refl
    by_row SetRow.other = once_scoped

once_shown : Once sphinxql shown [] (λ (x : (row : ShowRow) × Shown row). IsShown x.0 x.1)
once_shown = once_named ShowRow.index_status after_index_status all_shown (parted_firsts sphinxql [] show_part ShowRow.index_status after_index_status refl) by_row
  where
    by_row : (row : ShowRow) → Once sphinxql (show_part row) [] (IsShown row)
    by_row ShowRow.index_status = once_after (once_keyword keywords.Index) (once_before once_name (once_keyword keywords.Status) refl) refl
    by_row ShowRow.meta = once_keyword keywords.Meta
    by_row ShowRow.tables = once_keyword keywords.Tables
    by_row ShowRow.warnings = once_keyword keywords.Warnings
    by_row ShowRow.variables = once_keyword keywords.Variables
    by_row ShowRow.databases = once_keyword keywords.Databases

once_flushed : Once sphinxql (flush_part FlushRow.ramchunk ∣ flush_part FlushRow.rtindex) [] (λ (x : FlushRow × List ℕ). IsFlushed x.0 x.1)
once_flushed = once_named FlushRow.ramchunk after_ramchunk all_flushed (parted_firsts sphinxql [] flush_part FlushRow.ramchunk after_ramchunk refl) by_row
  where
    by_row : (row : FlushRow) → Once sphinxql (flush_part row) [] (IsFlushed row)
    by_row FlushRow.ramchunk = once_after (once_keyword keywords.RamChunk) once_name refl
    by_row FlushRow.rtindex = once_after (once_keyword keywords.RtIndex) once_name refl

once_insert : Once sphinxql insert (the_sign signs.Comma ∷ []) IsInserted
once_insert =
    once_seq once_put (once_after (once_keyword keywords.Into) (once_seq once_name
    (once_seq (once_optional (once_enclosed (once_listed (once_sign signs.Comma) once_name refl refl) refl) refl)
    (once_after (once_keyword keywords.Values) (once_listed (once_sign signs.Comma) (once_enclosed (once_listed (once_sign signs.Comma) once_val refl refl) refl) refl refl) refl)
    refl) refl) refl) refl

-- Statements, row by row.
once_row : (row : Row) → Once sphinxql (stated row) select_goes_on (IsStated row)
once_row Row.select = once_after (once_keyword keywords.Select) once_selection refl
once_row Row.delete = once_wider (once_after (once_keywords keywords.Delete keywords.From) (once_seq once_name (once_after (once_keywords keywords.Where keywords.Id) once_ids refl) refl) refl) refl
once_row Row.set = once_wider (once_after (once_keyword keywords.Set) once_set_rest refl) refl
once_row Row.show = once_wider (once_after (once_keyword keywords.Show) once_shown refl) refl
once_row Row.flush = once_wider (once_after (once_keyword keywords.Flush) once_flushed refl) refl
once_row Row.begin = once_wider (once_keyword keywords.Begin) refl
once_row Row.start_transaction = once_wider (once_keywords keywords.Start keywords.Transaction) refl
once_row Row.commit = once_wider (once_keyword keywords.Commit) refl
once_row Row.rollback = once_wider (once_keyword keywords.Rollback) refl
once_row Row.optimize_index = once_wider (once_after (once_keywords keywords.Optimize keywords.Index) once_name refl) refl
once_row Row.truncate_rtindex = once_wider (once_after (once_keywords keywords.Truncate keywords.RtIndex) once_name refl) refl
once_row Row.describe = once_wider (once_after (once_keyword keywords.Describe) once_name refl) refl
once_row Row.insert = once_wider once_insert refl

statement_of : (row : Row) × Stated row → Statement
statement_of (Row.select, (SelectRow.variable, (name, limit))) = statements.SelectVar name limit
statement_of (Row.select, (SelectRow.database, _)) = statements.SelectDatabase
statement_of (Row.select, (SelectRow.from_index, chosen)) = statements.Select chosen
statement_of (Row.delete, (name, which)) = statements.Delete name which
statement_of (Row.set, (SetRow.autocommit, n)) = statements.SetAutocommit n
statement_of (Row.set, (SetRow.names, words)) = statements.SetNames words
statement_of (Row.set, (SetRow.other, (scope, (target, value)))) = statements.SetOther scope target value
statement_of (Row.show, (ShowRow.index_status, name)) = statements.ShowIndexStatus name
statement_of (Row.show, (ShowRow.meta, _)) = statements.ShowMeta
statement_of (Row.show, (ShowRow.tables, _)) = statements.ShowTables
statement_of (Row.show, (ShowRow.warnings, _)) = statements.ShowWarnings
statement_of (Row.show, (ShowRow.variables, _)) = statements.ShowVariables
statement_of (Row.show, (ShowRow.databases, _)) = statements.ShowDatabases
statement_of (Row.flush, (FlushRow.ramchunk, name)) = statements.FlushRamchunk name
statement_of (Row.flush, (FlushRow.rtindex, name)) = statements.FlushRtindex name
statement_of (Row.begin, _) = statements.Begin
statement_of (Row.start_transaction, _) = statements.StartTransaction
statement_of (Row.commit, _) = statements.Commit
statement_of (Row.rollback, _) = statements.Rollback
statement_of (Row.optimize_index, name) = statements.OptimizeIndex name
statement_of (Row.truncate_rtindex, name) = statements.TruncateRtindex name
statement_of (Row.describe, name) = statements.Describe name
statement_of (Row.insert, (replace, (name, (columns, rows)))) = statements.Insert replace name columns rows

back : (y : Statement) (u : List Lexeme) → IsStatement y u → (x : (row : Row) × Stated row) × IsStated x.0 x.1 u × (statement_of x ≡ y)
unfolding statement_of
back (statements.SelectVar name limit) u h = ((Row.select, (SelectRow.variable, (name, limit))), h, refl)
back statements.SelectDatabase u h = ((Row.select, (SelectRow.database, tt)), h, refl)
back (statements.Select chosen) u h = ((Row.select, (SelectRow.from_index, chosen)), h, refl)
back (statements.Delete name which) u h = ((Row.delete, (name, which)), h, refl)
back (statements.SetAutocommit n) u h = ((Row.set, (SetRow.autocommit, n)), h, refl)
back (statements.SetNames words) u h = ((Row.set, (SetRow.names, words)), h, refl)
back (statements.SetOther scope target value) u h = ((Row.set, (SetRow.other, (scope, (target, value)))), h, refl)
back (statements.ShowIndexStatus name) u h = ((Row.show, (ShowRow.index_status, name)), h, refl)
back statements.ShowMeta u h = ((Row.show, (ShowRow.meta, tt)), h, refl)
back statements.ShowTables u h = ((Row.show, (ShowRow.tables, tt)), h, refl)
back statements.ShowWarnings u h = ((Row.show, (ShowRow.warnings, tt)), h, refl)
back statements.ShowVariables u h = ((Row.show, (ShowRow.variables, tt)), h, refl)
back statements.ShowDatabases u h = ((Row.show, (ShowRow.databases, tt)), h, refl)
back (statements.FlushRamchunk name) u h = ((Row.flush, (FlushRow.ramchunk, name)), h, refl)
back (statements.FlushRtindex name) u h = ((Row.flush, (FlushRow.rtindex, name)), h, refl)
back statements.Begin u h = ((Row.begin, tt), h, refl)
back statements.StartTransaction u h = ((Row.start_transaction, tt), h, refl)
back statements.Commit u h = ((Row.commit, tt), h, refl)
back statements.Rollback u h = ((Row.rollback, tt), h, refl)
back (statements.OptimizeIndex name) u h = ((Row.optimize_index, name), h, refl)
back (statements.TruncateRtindex name) u h = ((Row.truncate_rtindex, name), h, refl)
back (statements.Describe name) u h = ((Row.describe, name), h, refl)
back (statements.Insert replace name columns rows) u h = ((Row.insert, (replace, (name, (columns, rows)))), h, refl)

-- The tokens of a statement stand for one.
pub once_statement : Once sphinxql statement select_goes_on IsStatement
once_statement =
    once_as (once_named Row.select after_select all_stated (parted_firsts sphinxql select_goes_on stated Row.select after_select refl) once_row)
    statement_of back
