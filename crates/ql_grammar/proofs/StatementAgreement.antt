-- The grammar of statements and the values of its texts, line by line.
use Rattle.std.proofs.Common.{ℕ, List, [], Bool, true, false, ◌⊎◌, inl, inr, refl, ap}
use Rattle.std.specs.Prelude.{ℤ}
use Rattle.ql_lex.specs.declared.token.Sign.TheVariants as signs
use Rattle.ql_lex.specs.Tokens.{Lexeme}
use Rattle.ql_grammar.specs.declared.keyword.Keyword.TheVariants as keywords
use Rattle.ql_tree.specs.declared.statement.Ids.{Ids}
use Rattle.ql_tree.specs.declared.statement.Ids.TheVariants as numbers
use Rattle.ql_tree.specs.declared.statement.Plain.{Plain}
use Rattle.ql_tree.specs.declared.statement.Plain.TheVariants as plains
use Rattle.ql_tree.specs.declared.statement.Scope.{Scope}
use Rattle.ql_tree.specs.declared.statement.Scope.TheVariants as scopes
use Rattle.ql_tree.specs.declared.statement.SetValue.{SetValue}
use Rattle.ql_tree.specs.declared.statement.SetValue.TheVariants as settings
use Rattle.ql_tree.specs.declared.statement.Statement.{Statement}
use Rattle.ql_tree.specs.declared.statement.Statement.TheVariants as statements
use Rattle.ql_tree.specs.declared.statement.Target.{Target}
use Rattle.ql_tree.specs.declared.statement.Target.TheVariants as targets
use Rattle.ql_tree.specs.declared.statement.Val.{Val}
use Rattle.ql_tree.specs.declared.statement.Val.TheVariants as vals
use Rattle.ql_grammar.specs.Tokens.{kind, name_value}
use Rattle.ql_grammar.specs.Classes.{a_sysvar, fits}
use Rattle.token_grammar.specs.Language.{In}
use Rattle.ql_grammar.specs.Terminals.{keyword, sysvar, target_name}
use Rattle.ql_grammar.specs.steps.Grammar.{select_variable, select_database, select, val, insert, ids, plain, setting, assignment, scoped, set_rest, shown, statement}
use Rattle.token_grammar.specs.Language.{◌∣◌}
use Rattle.ql_grammar.specs.Parts.{IsKeyword, IsSign, IsComma, IsName, IsNumber, IsTargetName, IsText, IsVariable, IsWhole, IsEnclosed}
use Rattle.token_grammar.specs.Values.{◌then◌, AreListed}
use Rattle.ql_grammar.specs.Statements.{IsVal, IsPut, AreIds, IsPlain, IsScope, IsTarget, IsSetting, IsStatement}
use Rattle.ql_grammar.specs.steps.Stating.{IsAssignment}
use Rattle.ql_grammar.proofs.Agreement.{agree_name, agree_number, agree_sign, agree_keyword}
use Rattle.token_grammar.proofs.Agreement.{Agree, agree_as, agree_listed, agree_seq}
use Rattle.ql_grammar.proofs.Agreements.{agree_enclosed, agree_parens, agree_text, agree_whole, agree_keywords}
use Rattle.token_grammar.proofs.Agreement.{IsEither, agree_after, agree_before, agree_optional, agree_or}
use Rattle.ql_grammar.proofs.SelectAgreement.{agree_select}
use Rattle.ql_grammar.proofs.StatementRows.{SettingRow, SettingValue, IsSettingPart, after_null, setting_part, all_settings, SelectRow, Selected, IsSelection, after_variable, selected, all_selected, IsScoped, after_global, in_scope, all_scoped, in_no_scope, SetRow, Set, IsSet, after_autocommit, set_part, all_set, ShowRow, Shown, IsShown, after_index_status, show_part, all_shown, FlushRow, IsFlushed, after_ramchunk, flush_part, all_flushed, IsInserted, Row, Stated, IsStated, after_select, stated, all_stated}
use Rattle.token_grammar.proofs.NamedChoices.{agree_named}
use Rattle.ql_grammar.proofs.ClassKinds.{variable_is}
use Rattle.ql_grammar.specs.Alphabet.{sphinxql}

agree_variable : Agree sphinxql sysvar IsVariable
unfolding In
agree_variable = record {
  text = λ x u (t, e, (k, v)). (t, e, ap (fits a_sysvar) k);
  value = λ u (t, e, f). (name_value t, (t, e, (variable_is (kind t) f, refl)));
}

agree_target_name : Agree sphinxql target_name IsTargetName
unfolding In
agree_target_name = record {
  text = λ x u (t, e, (f, v)). (t, e, f);
  value = λ u (t, e, f). (name_value t, (t, e, (f, refl)));
}

-- Values, and the documents of a DELETE.
agree_val : Agree sphinxql val IsVal
agree_val = agree_as (agree_or agree_text agree_whole) there back
  where
    there : (x : List ℕ ⊎ ℤ) (u : List Lexeme) → IsEither IsText IsWhole x u → (y : Val) × IsVal y u
    there (inl text) u h = (vals.Text text, h)
    there (inr z) u h = (vals.Number z, h)

    back : (y : Val) (u : List Lexeme) → IsVal y u → (x : List ℕ ⊎ ℤ) × IsEither IsText IsWhole x u
    back (vals.Text text) u h = (inl text, h)
    back (vals.Number z) u h = (inr z, h)

agree_put : Agree sphinxql (keyword keywords.Replace ∣ keyword keywords.Insert) IsPut
agree_put = agree_as (agree_or (agree_keyword keywords.Replace) (agree_keyword keywords.Insert)) there back
  where
    Is : Unit {0} ⊎ Unit {0} → List Lexeme → Type 0
    Is = IsEither (λ _. IsKeyword keywords.Replace) (λ _. IsKeyword keywords.Insert)

    there : (x : Unit {0} ⊎ Unit {0}) (u : List Lexeme) → Is x u → (y : Bool) × IsPut y u
    there (inl _) u h = (true, h)
    there (inr _) u h = (false, h)

    back : (y : Bool) (u : List Lexeme) → IsPut y u → (x : Unit {0} ⊎ Unit {0}) × Is x u
    back true u h = (inl tt, h)
    back false u h = (inr tt, h)

agree_ids : Agree sphinxql ids AreIds
agree_ids = agree_as (agree_or (agree_after (agree_sign signs.Equal) agree_number) (agree_after (agree_keyword keywords.In) (agree_enclosed (agree_listed (agree_sign signs.Comma) agree_number)))) there back
  where
    Is : ℕ ⊎ List ℕ → List Lexeme → Type 0
    Is = IsEither (λ n. IsSign signs.Equal then IsNumber n) (λ ns. IsKeyword keywords.In then IsEnclosed (AreListed IsComma IsNumber ns))

    there : (x : ℕ ⊎ List ℕ) (u : List Lexeme) → Is x u → (y : Ids) × AreIds y u
    there (inl n) u h = (numbers.One n, h)
    there (inr ns) u h = (numbers.Several ns, h)

    back : (y : Ids) (u : List Lexeme) → AreIds y u → (x : ℕ ⊎ List ℕ) × Is x u
    back (numbers.One n) u h = (inl n, h)
    back (numbers.Several ns) u h = (inr ns, h)

-- SET.
agree_plain : Agree sphinxql plain IsPlain
agree_plain = agree_as (agree_or agree_text agree_name) there back
  where
    there : (x : List ℕ ⊎ List ℕ) (u : List Lexeme) → IsEither IsText IsName x u → (y : Plain) × IsPlain y u
    there (inl text) u h = (plains.Text text, h)
    there (inr name) u h = (plains.Name name, h)

    back : (y : Plain) (u : List Lexeme) → IsPlain y u → (x : List ℕ ⊎ List ℕ) × IsEither IsText IsName x u
    back (plains.Text text) u h = (inl text, h)
    back (plains.Name name) u h = (inr name, h)

agree_setting : Agree sphinxql setting IsSetting
agree_setting = agree_as (agree_named SettingRow.null after_null all_settings by_row) there back
  where
    by_row : (row : SettingRow) → Agree sphinxql (setting_part row) (IsSettingPart row)
    by_row SettingRow.null = agree_keyword keywords.Null
    by_row SettingRow.a_text = agree_text
    by_row SettingRow.a_name = agree_name
    by_row SettingRow.a_number = agree_whole

    there : (x : (row : SettingRow) × SettingValue row) (u : List Lexeme) → IsSettingPart x.0 x.1 u → (y : SetValue) × IsSetting y u
    there (SettingRow.null, _) u h = (settings.Null, h)
    there (SettingRow.a_text, text) u h = (settings.Text text, h)
    there (SettingRow.a_name, name) u h = (settings.Name name, h)
    there (SettingRow.a_number, z) u h = (settings.Number z, h)

    back : (y : SetValue) (u : List Lexeme) → IsSetting y u → (x : (row : SettingRow) × SettingValue row) × IsSettingPart x.0 x.1 u
    back settings.Null u h = ((SettingRow.null, tt), h)
    back (settings.Text text) u h = ((SettingRow.a_text, text), h)
    back (settings.Name name) u h = ((SettingRow.a_name, name), h)
    back (settings.Number z) u h = ((SettingRow.a_number, z), h)

agree_target : Agree sphinxql (sysvar ∣ target_name) IsTarget
agree_target = agree_as (agree_or agree_variable agree_target_name) there back
  where
    there : (x : List ℕ ⊎ List ℕ) (u : List Lexeme) → IsEither IsVariable IsTargetName x u → (y : Target) × IsTarget y u
    there (inl name) u h = (targets.Var name, h)
    there (inr name) u h = (targets.Name name, h)

    back : (y : Target) (u : List Lexeme) → IsTarget y u → (x : List ℕ ⊎ List ℕ) × IsEither IsVariable IsTargetName x u
    back (targets.Var name) u h = (inl name, h)
    back (targets.Name name) u h = (inr name, h)

agree_assignment : Agree sphinxql assignment IsAssignment
agree_assignment = agree_seq agree_target (agree_after (agree_sign signs.Equal) agree_setting)

-- What follows the first words of the statements.
agree_selection : Agree sphinxql (select_variable ∣ select_database ∣ select) (λ (x : (row : SelectRow) × Selected row). IsSelection x.0 x.1)
agree_selection = agree_named SelectRow.variable after_variable all_selected by_row
  where
    by_row : (row : SelectRow) → Agree sphinxql (selected row) (IsSelection row)
    by_row SelectRow.variable = agree_seq agree_variable (agree_optional (agree_after (agree_keyword keywords.Limit) agree_number))
    by_row SelectRow.database = agree_after (agree_keyword keywords.Database) agree_parens
    by_row SelectRow.from_index = agree_select

agree_scoped : Agree sphinxql scoped (λ (x : Scope × (Target × SetValue)). IsScope x.0 then IsAssignment x.1)
agree_scoped = agree_as (agree_named scopes.Global after_global all_scoped by_row) there back
  where
    by_row : (scope : Scope) → Agree sphinxql (in_scope scope) (IsScoped scope)
    by_row scopes.Global = agree_after (agree_keyword keywords.Global) agree_assignment
    by_row scopes.Session = agree_after (agree_keyword keywords.Session) agree_assignment
    by_row scopes.Absent = agree_assignment

    there : (x : Scope × (Target × SetValue)) (u : List Lexeme) → IsScoped x.0 x.1 u → (y : Scope × (Target × SetValue)) × (IsScope y.0 then IsAssignment y.1) u
    there (scopes.Global, pair) u h = ((scopes.Global, pair), h)
    there (scopes.Session, pair) u h = ((scopes.Session, pair), h)
    there (scopes.Absent, pair) u h = ((scopes.Absent, pair), ([], u, refl, refl, h))

    back : (y : Scope × (Target × SetValue)) (u : List Lexeme) → (IsScope y.0 then IsAssignment y.1) u → (x : Scope × (Target × SetValue)) × IsScoped x.0 x.1 u
    back (scopes.Global, pair) u h = ((scopes.Global, pair), h)
    back (scopes.Session, pair) u h = ((scopes.Session, pair), h)
    back (scopes.Absent, pair) u h = ((scopes.Absent, pair), in_no_scope pair u h)

agree_set_rest : Agree sphinxql set_rest (λ (x : (row : SetRow) × Set row). IsSet x.0 x.1)
agree_set_rest = agree_named SetRow.autocommit after_autocommit all_set by_row
  where
    by_row : (row : SetRow) → Agree sphinxql (set_part row) (IsSet row)
    by_row SetRow.autocommit = agree_after (agree_keyword keywords.Autocommit) (agree_after (agree_sign signs.Equal) agree_number)
    by_row SetRow.names = agree_after (agree_keyword keywords.Names) agree_plain
    by_row SetRow.other = agree_scoped

agree_shown : Agree sphinxql shown (λ (x : (row : ShowRow) × Shown row). IsShown x.0 x.1)
agree_shown = agree_named ShowRow.index_status after_index_status all_shown by_row
  where
    by_row : (row : ShowRow) → Agree sphinxql (show_part row) (IsShown row)
    by_row ShowRow.index_status = agree_after (agree_keyword keywords.Index) (agree_before agree_name (agree_keyword keywords.Status))
    by_row ShowRow.meta = agree_keyword keywords.Meta
    by_row ShowRow.tables = agree_keyword keywords.Tables
    by_row ShowRow.warnings = agree_keyword keywords.Warnings
    by_row ShowRow.variables = agree_keyword keywords.Variables
    by_row ShowRow.databases = agree_keyword keywords.Databases

agree_flushed : Agree sphinxql (flush_part FlushRow.ramchunk ∣ flush_part FlushRow.rtindex) (λ (x : FlushRow × List ℕ). IsFlushed x.0 x.1)
agree_flushed = agree_named FlushRow.ramchunk after_ramchunk all_flushed by_row
  where
    by_row : (row : FlushRow) → Agree sphinxql (flush_part row) (IsFlushed row)
    by_row FlushRow.ramchunk = agree_after (agree_keyword keywords.RamChunk) agree_name
    by_row FlushRow.rtindex = agree_after (agree_keyword keywords.RtIndex) agree_name

agree_insert : Agree sphinxql insert IsInserted
agree_insert =
    agree_seq agree_put (agree_after (agree_keyword keywords.Into) (agree_seq agree_name
    (agree_seq (agree_optional (agree_enclosed (agree_listed (agree_sign signs.Comma) agree_name)))
    (agree_after (agree_keyword keywords.Values) (agree_listed (agree_sign signs.Comma) (agree_enclosed (agree_listed (agree_sign signs.Comma) agree_val)))))))

-- Statements, row by row.
agree_row : (row : Row) → Agree sphinxql (stated row) (IsStated row)
agree_row Row.select = agree_after (agree_keyword keywords.Select) agree_selection
agree_row Row.delete = agree_after (agree_keywords keywords.Delete keywords.From) (agree_seq agree_name (agree_after (agree_keywords keywords.Where keywords.Id) agree_ids))
agree_row Row.set = agree_after (agree_keyword keywords.Set) agree_set_rest
agree_row Row.show = agree_after (agree_keyword keywords.Show) agree_shown
agree_row Row.flush = agree_after (agree_keyword keywords.Flush) agree_flushed
agree_row Row.begin = agree_keyword keywords.Begin
agree_row Row.start_transaction = agree_keywords keywords.Start keywords.Transaction
agree_row Row.commit = agree_keyword keywords.Commit
agree_row Row.rollback = agree_keyword keywords.Rollback
agree_row Row.optimize_index = agree_after (agree_keywords keywords.Optimize keywords.Index) agree_name
agree_row Row.truncate_rtindex = agree_after (agree_keywords keywords.Truncate keywords.RtIndex) agree_name
agree_row Row.describe = agree_after (agree_keyword keywords.Describe) agree_name
agree_row Row.insert = agree_insert

there : (x : (row : Row) × Stated row) (u : List Lexeme) → IsStated x.0 x.1 u → (y : Statement) × IsStatement y u
there (Row.select, (SelectRow.variable, (name, limit))) u h = (statements.SelectVar name limit, h)
there (Row.select, (SelectRow.database, _)) u h = (statements.SelectDatabase, h)
there (Row.select, (SelectRow.from_index, select)) u h = (statements.Select select, h)
there (Row.delete, (name, which)) u h = (statements.Delete name which, h)
there (Row.set, (SetRow.autocommit, n)) u h = (statements.SetAutocommit n, h)
there (Row.set, (SetRow.names, plain)) u h = (statements.SetNames plain, h)
there (Row.set, (SetRow.other, (scope, (target, value)))) u h = (statements.SetOther scope target value, h)
there (Row.show, (ShowRow.index_status, name)) u h = (statements.ShowIndexStatus name, h)
there (Row.show, (ShowRow.meta, _)) u h = (statements.ShowMeta, h)
there (Row.show, (ShowRow.tables, _)) u h = (statements.ShowTables, h)
there (Row.show, (ShowRow.warnings, _)) u h = (statements.ShowWarnings, h)
there (Row.show, (ShowRow.variables, _)) u h = (statements.ShowVariables, h)
there (Row.show, (ShowRow.databases, _)) u h = (statements.ShowDatabases, h)
there (Row.flush, (FlushRow.ramchunk, name)) u h = (statements.FlushRamchunk name, h)
there (Row.flush, (FlushRow.rtindex, name)) u h = (statements.FlushRtindex name, h)
there (Row.begin, _) u h = (statements.Begin, h)
there (Row.start_transaction, _) u h = (statements.StartTransaction, h)
there (Row.commit, _) u h = (statements.Commit, h)
there (Row.rollback, _) u h = (statements.Rollback, h)
there (Row.optimize_index, name) u h = (statements.OptimizeIndex name, h)
there (Row.truncate_rtindex, name) u h = (statements.TruncateRtindex name, h)
there (Row.describe, name) u h = (statements.Describe name, h)
there (Row.insert, (replace, (name, (columns, rows)))) u h = (statements.Insert replace name columns rows, h)

back : (y : Statement) (u : List Lexeme) → IsStatement y u → (x : (row : Row) × Stated row) × IsStated x.0 x.1 u
back (statements.SelectVar name limit) u h = ((Row.select, (SelectRow.variable, (name, limit))), h)
back statements.SelectDatabase u h = ((Row.select, (SelectRow.database, tt)), h)
back (statements.Select select) u h = ((Row.select, (SelectRow.from_index, select)), h)
back (statements.Delete name which) u h = ((Row.delete, (name, which)), h)
back (statements.SetAutocommit n) u h = ((Row.set, (SetRow.autocommit, n)), h)
back (statements.SetNames plain) u h = ((Row.set, (SetRow.names, plain)), h)
back (statements.SetOther scope target value) u h = ((Row.set, (SetRow.other, (scope, (target, value)))), h)
back (statements.ShowIndexStatus name) u h = ((Row.show, (ShowRow.index_status, name)), h)
back statements.ShowMeta u h = ((Row.show, (ShowRow.meta, tt)), h)
back statements.ShowTables u h = ((Row.show, (ShowRow.tables, tt)), h)
back statements.ShowWarnings u h = ((Row.show, (ShowRow.warnings, tt)), h)
back statements.ShowVariables u h = ((Row.show, (ShowRow.variables, tt)), h)
back statements.ShowDatabases u h = ((Row.show, (ShowRow.databases, tt)), h)
back (statements.FlushRamchunk name) u h = ((Row.flush, (FlushRow.ramchunk, name)), h)
back (statements.FlushRtindex name) u h = ((Row.flush, (FlushRow.rtindex, name)), h)
back statements.Begin u h = ((Row.begin, tt), h)
back statements.StartTransaction u h = ((Row.start_transaction, tt), h)
back statements.Commit u h = ((Row.commit, tt), h)
back statements.Rollback u h = ((Row.rollback, tt), h)
back (statements.OptimizeIndex name) u h = ((Row.optimize_index, name), h)
back (statements.TruncateRtindex name) u h = ((Row.truncate_rtindex, name), h)
back (statements.Describe name) u h = ((Row.describe, name), h)
back (statements.Insert replace name columns rows) u h = ((Row.insert, (replace, (name, (columns, rows)))), h)

-- Each text of a statement stands for one, and what stands for one is a text.
pub statement_agrees : Agree sphinxql statement IsStatement
statement_agrees = agree_as (agree_named Row.select after_select all_stated agree_row) there back
