-- The alternatives of the grammar of statements, by name: what stands in each, and which tokens are a text of it.
use Rattle.std.proofs.Common.{ℕ, List, [], ◌∷◌, ◌++◌, Bool, Option, sym, ◌∙◌, ap, subst}
use Rattle.ql_lex.specs.declared.token.Sign.TheVariants as signs
use Rattle.ql_lex.specs.Tokens.{Lexeme}
use Rattle.ql_grammar.specs.declared.keyword.Keyword.TheVariants as keywords
use Rattle.ql_tree.specs.declared.select.Select.{Select}
use Rattle.ql_tree.specs.declared.statement.Ids.{Ids}
use Rattle.ql_tree.specs.declared.statement.Plain.{Plain}
use Rattle.ql_tree.specs.declared.statement.Scope.{Scope}
use Rattle.ql_tree.specs.declared.statement.Scope.TheVariants as scopes
use Rattle.ql_tree.specs.declared.statement.SetValue.{SetValue}
use Rattle.ql_tree.specs.declared.statement.Target.{Target}
use Rattle.ql_tree.specs.declared.statement.Val.{Val}
use Rattle.ql_grammar.specs.Classes.{Class}
use Rattle.ql_grammar.specs.Terminals.{text, whole, keyword, sign, number, name, two_keywords}
use Rattle.ql_grammar.specs.steps.Grammar as grammar
use Rattle.token_grammar.specs.Language.{Re, ◌⨾◌}
use Rattle.ql_grammar.specs.Parts.{IsText, IsWhole, IsKeyword, AreKeywords, IsSign, IsComma, IsName, IsNumber, IsVariable, AreParens}
use Rattle.token_grammar.specs.Values.{◌then◌, IsAbsent, IsGiven, AreListed}
use Rattle.ql_grammar.specs.Selects.{IsSelected}
use Rattle.ql_grammar.specs.Statements.{IsPut, AreIds, IsPlain, IsScope, AreColumns, IsRow, IsRowLimit}
use Rattle.ql_grammar.specs.steps.Stating.{IsAssignment}
use Rattle.token_grammar.proofs.NamedChoices.{IsListed}
use Rattle.std.specs.Prelude.{ℤ}
use native.Mathlib.Omega.{arith}

-- After SELECT.
pub data SelectRow : Type 0 where
  variable database from_index : SelectRow

abbrev pub after_variable : List SelectRow
after_variable = SelectRow.database ∷ SelectRow.from_index ∷ []

abbrev pub selected : SelectRow → Re Class
selected SelectRow.variable = grammar.select_variable
selected SelectRow.database = grammar.select_database
selected SelectRow.from_index = grammar.select

abbrev pub Selected : SelectRow → Type 0
Selected SelectRow.variable = List ℕ × Option ℕ
Selected SelectRow.database = Unit {0}
Selected SelectRow.from_index = Select

abbrev pub IsSelection : (row : SelectRow) → Selected row → List Lexeme → Type 0
IsSelection SelectRow.variable x = IsVariable x.0 then IsGiven IsRowLimit x.1
IsSelection SelectRow.database _ = IsKeyword keywords.Database then AreParens
IsSelection SelectRow.from_index x = IsSelected x

-- After SET: a scope names what follows it, ..
abbrev pub after_global : List Scope
after_global = scopes.Session ∷ scopes.Absent ∷ []

abbrev pub in_scope : Scope → Re Class
in_scope scopes.Global = keyword keywords.Global ⨾ grammar.assignment
in_scope scopes.Session = keyword keywords.Session ⨾ grammar.assignment
in_scope scopes.Absent = grammar.assignment

abbrev pub IsScoped : Scope → Target × SetValue → List Lexeme → Type 0
IsScoped scopes.Global x = IsKeyword keywords.Global then IsAssignment x
IsScoped scopes.Session x = IsKeyword keywords.Session then IsAssignment x
IsScoped scopes.Absent x = IsAssignment x

-- where no scope is written, nothing stands before what is assigned
pub in_no_scope : (x : Target × SetValue) (u : List Lexeme) → (IsAbsent then IsAssignment x) u → IsAssignment x u
in_no_scope x u (a, b, e, f, h) = subst (IsAssignment x) (sym (e ∙ ap (λ v. v ++ b) f)) h

-- .. a value is set, ..
pub data SettingRow : Type 0 where
  null a_text a_name a_number : SettingRow

abbrev pub after_null : List SettingRow
after_null = SettingRow.a_text ∷ SettingRow.a_name ∷ SettingRow.a_number ∷ []

abbrev pub setting_part : SettingRow → Re Class
setting_part SettingRow.null = keyword keywords.Null
setting_part SettingRow.a_text = text
setting_part SettingRow.a_name = name
setting_part SettingRow.a_number = whole

abbrev pub SettingValue : SettingRow → Type 0
SettingValue SettingRow.null = Unit {0}
SettingValue SettingRow.a_text = List ℕ
SettingValue SettingRow.a_name = List ℕ
SettingValue SettingRow.a_number = ℤ

abbrev pub IsSettingPart : (row : SettingRow) → SettingValue row → List Lexeme → Type 0
IsSettingPart SettingRow.null _ = IsKeyword keywords.Null
IsSettingPart SettingRow.a_text words = IsText words
IsSettingPart SettingRow.a_name name = IsName name
IsSettingPart SettingRow.a_number z = IsWhole z

-- .. and the whole of it
pub data SetRow : Type 0 where
  autocommit names other : SetRow

abbrev pub after_autocommit : List SetRow
after_autocommit = SetRow.names ∷ SetRow.other ∷ []

abbrev pub set_part : SetRow → Re Class
set_part SetRow.autocommit = keyword keywords.Autocommit ⨾ sign signs.Equal ⨾ number
set_part SetRow.names = keyword keywords.Names ⨾ grammar.plain
set_part SetRow.other = grammar.scoped

abbrev pub Set : SetRow → Type 0
Set SetRow.autocommit = ℕ
Set SetRow.names = Plain
Set SetRow.other = Scope × (Target × SetValue)

abbrev pub IsSet : (row : SetRow) → Set row → List Lexeme → Type 0
IsSet SetRow.autocommit n = IsKeyword keywords.Autocommit then IsSign signs.Equal then IsNumber n
IsSet SetRow.names plain = IsKeyword keywords.Names then IsPlain plain
IsSet SetRow.other x = IsScope x.0 then IsAssignment x.1

-- After SHOW.
pub data ShowRow : Type 0 where
  index_status meta tables warnings variables databases : ShowRow

abbrev pub after_index_status : List ShowRow
after_index_status = ShowRow.meta ∷ ShowRow.tables ∷ ShowRow.warnings ∷ ShowRow.variables ∷ ShowRow.databases ∷ []

abbrev pub show_part : ShowRow → Re Class
show_part ShowRow.index_status = keyword keywords.Index ⨾ name ⨾ keyword keywords.Status
show_part ShowRow.meta = keyword keywords.Meta
show_part ShowRow.tables = keyword keywords.Tables
show_part ShowRow.warnings = keyword keywords.Warnings
show_part ShowRow.variables = keyword keywords.Variables
show_part ShowRow.databases = keyword keywords.Databases

abbrev pub Shown : ShowRow → Type 0
Shown ShowRow.index_status = List ℕ
Shown _ = Unit {0}

abbrev pub IsShown : (row : ShowRow) → Shown row → List Lexeme → Type 0
IsShown ShowRow.index_status x = IsKeyword keywords.Index then IsName x then IsKeyword keywords.Status
IsShown ShowRow.meta _ = IsKeyword keywords.Meta
IsShown ShowRow.tables _ = IsKeyword keywords.Tables
IsShown ShowRow.warnings _ = IsKeyword keywords.Warnings
IsShown ShowRow.variables _ = IsKeyword keywords.Variables
IsShown ShowRow.databases _ = IsKeyword keywords.Databases

-- After FLUSH.
pub data FlushRow : Type 0 where
  ramchunk rtindex : FlushRow

abbrev pub after_ramchunk : List FlushRow
after_ramchunk = FlushRow.rtindex ∷ []

abbrev pub flush_part : FlushRow → Re Class
flush_part FlushRow.ramchunk = keyword keywords.RamChunk ⨾ name
flush_part FlushRow.rtindex = keyword keywords.RtIndex ⨾ name

abbrev pub IsFlushed : FlushRow → List ℕ → List Lexeme → Type 0
IsFlushed FlushRow.ramchunk index = IsKeyword keywords.RamChunk then IsName index
IsFlushed FlushRow.rtindex index = IsKeyword keywords.RtIndex then IsName index

-- Statements.
abbrev pub Put : Type 0
Put = Bool × (List ℕ × (Option (List (List ℕ)) × List (List Val)))

abbrev pub IsInserted : Put → List Lexeme → Type 0
IsInserted x = IsPut x.0 then IsKeyword keywords.Into then IsName x.1.0 then IsGiven AreColumns x.1.1.0 then IsKeyword keywords.Values then AreListed IsComma IsRow x.1.1.1

pub data Row : Type 0 where
  select delete set show flush begin start_transaction commit rollback optimize_index truncate_rtindex describe insert : Row

abbrev pub after_select : List Row
after_select =
    Row.delete ∷ Row.set ∷ Row.show ∷ Row.flush ∷ Row.begin ∷ Row.start_transaction ∷ Row.commit ∷ Row.rollback ∷ Row.optimize_index
    ∷ Row.truncate_rtindex ∷ Row.describe ∷ Row.insert ∷ []

abbrev pub stated : Row → Re Class
stated Row.select = grammar.selects
stated Row.delete = grammar.delete
stated Row.set = grammar.set
stated Row.show = grammar.show
stated Row.flush = grammar.flush
stated Row.begin = keyword keywords.Begin
stated Row.start_transaction = two_keywords keywords.Start keywords.Transaction
stated Row.commit = keyword keywords.Commit
stated Row.rollback = keyword keywords.Rollback
stated Row.optimize_index = two_keywords keywords.Optimize keywords.Index ⨾ name
stated Row.truncate_rtindex = two_keywords keywords.Truncate keywords.RtIndex ⨾ name
stated Row.describe = keyword keywords.Describe ⨾ name
stated Row.insert = grammar.insert

abbrev pub Stated : Row → Type 0
Stated Row.select = (row : SelectRow) × Selected row
Stated Row.delete = List ℕ × Ids
Stated Row.set = (row : SetRow) × Set row
Stated Row.show = (row : ShowRow) × Shown row
Stated Row.flush = FlushRow × List ℕ
Stated Row.begin = Unit {0}
Stated Row.start_transaction = Unit {0}
Stated Row.commit = Unit {0}
Stated Row.rollback = Unit {0}
Stated Row.optimize_index = List ℕ
Stated Row.truncate_rtindex = List ℕ
Stated Row.describe = List ℕ
Stated Row.insert = Put

abbrev pub IsStated : (row : Row) → Stated row → List Lexeme → Type 0
IsStated Row.select x = IsKeyword keywords.Select then IsSelection x.0 x.1
IsStated Row.delete x = AreKeywords keywords.Delete keywords.From then IsName x.0 then AreKeywords keywords.Where keywords.Id then AreIds x.1
IsStated Row.set x = IsKeyword keywords.Set then IsSet x.0 x.1
IsStated Row.show x = IsKeyword keywords.Show then IsShown x.0 x.1
IsStated Row.flush x = IsKeyword keywords.Flush then IsFlushed x.0 x.1
IsStated Row.begin _ = IsKeyword keywords.Begin
IsStated Row.start_transaction _ = AreKeywords keywords.Start keywords.Transaction
IsStated Row.commit _ = IsKeyword keywords.Commit
IsStated Row.rollback _ = IsKeyword keywords.Rollback
IsStated Row.optimize_index index = AreKeywords keywords.Optimize keywords.Index then IsName index
IsStated Row.truncate_rtindex index = AreKeywords keywords.Truncate keywords.RtIndex then IsName index
IsStated Row.describe index = IsKeyword keywords.Describe then IsName index
IsStated Row.insert x = IsInserted x

-- No row is left out.
pub all_selected : (row : SelectRow) → IsListed SelectRow.variable after_variable row
all_selected row = grind arith

pub all_scoped : (scope : Scope) → IsListed scopes.Global after_global scope
all_scoped scope = grind arith

pub all_settings : (row : SettingRow) → IsListed SettingRow.null after_null row
all_settings row = grind arith

pub all_set : (row : SetRow) → IsListed SetRow.autocommit after_autocommit row
all_set row = grind arith

pub all_shown : (row : ShowRow) → IsListed ShowRow.index_status after_index_status row
all_shown row = grind arith

pub all_flushed : (row : FlushRow) → IsListed FlushRow.ramchunk after_ramchunk row
all_flushed row = grind arith

pub all_stated : (row : Row) → IsListed Row.select after_select row
all_stated row = grind arith
