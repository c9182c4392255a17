-- The alternatives of the parts of a SELECT, by name: what stands in each, and which tokens are a text of it.
use Rattle.std.proofs.Common.{ℕ, List, [], ◌∷◌, Option}
use Rattle.std.specs.Prelude.{ℤ}
use native.Mathlib.Omega.{arith}
use Rattle.ql_lex.specs.Tokens.{Lexeme}
use Rattle.ql_grammar.specs.declared.keyword.Keyword.TheVariants as keywords
use Rattle.ql_tree.specs.declared.select.Comparison.{Comparison}
use Rattle.ql_grammar.specs.Classes.{Class}
use Rattle.ql_grammar.specs.Terminals.{keyword, name, number, text, whole, comma, enclosed}
use Rattle.ql_grammar.specs.steps.Grammar as grammar
use Rattle.token_grammar.specs.Language.{Re, ◌⨾◌, listed}
use Rattle.ql_grammar.specs.Parts.{IsKeyword, IsComma, IsName, IsNumber, IsText, IsWhole, IsEnclosed, AreParens}
use Rattle.token_grammar.specs.Values.{◌then◌, IsGiven, AreListed}
use Rattle.ql_grammar.specs.Selects.{IsWeight, IsCount, IsComparison, IsFieldWeight, IsArgument}
use Rattle.ql_grammar.specs.steps.Selecting.{IsCounted}
use Rattle.token_grammar.proofs.NamedChoices.{IsListed}

-- What is computed for a document.
pub data ExprRow : Type 0 where
  count least greatest sum weight group_by column : ExprRow

abbrev pub after_count : List ExprRow
after_count = ExprRow.least ∷ ExprRow.greatest ∷ ExprRow.sum ∷ ExprRow.weight ∷ ExprRow.group_by ∷ ExprRow.column ∷ []

abbrev pub expr_part : ExprRow → Re Class
expr_part ExprRow.count = keyword keywords.Count ⨾ enclosed grammar.counted
expr_part ExprRow.least = keyword keywords.Min ⨾ enclosed name
expr_part ExprRow.greatest = keyword keywords.Max ⨾ enclosed name
expr_part ExprRow.sum = keyword keywords.Sum ⨾ enclosed name
expr_part ExprRow.weight = grammar.weight
expr_part ExprRow.group_by = keyword keywords.GroupBy ⨾ grammar.parens
expr_part ExprRow.column = name

abbrev pub ExprValue : ExprRow → Type 0
ExprValue ExprRow.count = Option (List ℕ)
ExprValue ExprRow.least = List ℕ
ExprValue ExprRow.greatest = List ℕ
ExprValue ExprRow.sum = List ℕ
ExprValue ExprRow.weight = Unit {0}
ExprValue ExprRow.group_by = Unit {0}
ExprValue ExprRow.column = List ℕ

abbrev pub IsExprPart : (row : ExprRow) → ExprValue row → List Lexeme → Type 0
IsExprPart ExprRow.count x = IsKeyword keywords.Count then IsEnclosed (IsCounted x)
IsExprPart ExprRow.least x = IsKeyword keywords.Min then IsEnclosed (IsName x)
IsExprPart ExprRow.greatest x = IsKeyword keywords.Max then IsEnclosed (IsName x)
IsExprPart ExprRow.sum x = IsKeyword keywords.Sum then IsEnclosed (IsName x)
IsExprPart ExprRow.weight _ = IsWeight
IsExprPart ExprRow.group_by _ = IsKeyword keywords.GroupBy then AreParens
IsExprPart ExprRow.column x = IsName x

-- What a condition wants of a column.
pub data TestRow : Type 0 where
  between not_among among compare : TestRow

abbrev pub after_between : List TestRow
after_between = TestRow.not_among ∷ TestRow.among ∷ TestRow.compare ∷ []

abbrev pub test_part : TestRow → Re Class
test_part TestRow.between = keyword keywords.Between ⨾ whole ⨾ keyword keywords.And ⨾ whole
test_part TestRow.not_among = keyword keywords.Not ⨾ keyword keywords.In ⨾ grammar.wholes
test_part TestRow.among = keyword keywords.In ⨾ grammar.wholes
test_part TestRow.compare = grammar.comparison ⨾ whole

abbrev pub TestValue : TestRow → Type 0
TestValue TestRow.between = ℤ × ℤ
TestValue TestRow.not_among = List ℤ
TestValue TestRow.among = List ℤ
TestValue TestRow.compare = Comparison × ℤ

abbrev pub AreWholes : List ℤ → List Lexeme → Type 0
AreWholes numbers = IsEnclosed (AreListed IsComma IsWhole numbers)

abbrev pub IsTest : (row : TestRow) → TestValue row → List Lexeme → Type 0
IsTest TestRow.between x = IsKeyword keywords.Between then IsWhole x.0 then IsKeyword keywords.And then IsWhole x.1
IsTest TestRow.not_among numbers = IsKeyword keywords.Not then IsKeyword keywords.In then AreWholes numbers
IsTest TestRow.among numbers = IsKeyword keywords.In then AreWholes numbers
IsTest TestRow.compare x = IsComparison x.0 then IsWhole x.1

-- By what documents are sorted.
pub data SortRow : Type 0 where
  weight count column : SortRow

abbrev pub after_weight : List SortRow
after_weight = SortRow.count ∷ SortRow.column ∷ []

abbrev pub sort_part : SortRow → Re Class
sort_part SortRow.weight = grammar.weight
sort_part SortRow.count = grammar.count
sort_part SortRow.column = name

abbrev pub SortValue : SortRow → Type 0
SortValue SortRow.weight = Unit {0}
SortValue SortRow.count = Unit {0}
SortValue SortRow.column = List ℕ

abbrev pub IsSortPart : (row : SortRow) → SortValue row → List Lexeme → Type 0
IsSortPart SortRow.weight _ = IsWeight
IsSortPart SortRow.count _ = IsCount
IsSortPart SortRow.column x = IsName x

-- What an option is set to.
pub data OptionRow : Type 0 where
  a_name a_number a_text a_list : OptionRow

abbrev pub after_a_name : List OptionRow
after_a_name = OptionRow.a_number ∷ OptionRow.a_text ∷ OptionRow.a_list ∷ []

abbrev pub option_part : OptionRow → Re Class
option_part OptionRow.a_name = name ⨾ grammar.argument
option_part OptionRow.a_number = number
option_part OptionRow.a_text = text
option_part OptionRow.a_list = enclosed (listed comma grammar.field_weight)

abbrev pub OptionParts : OptionRow → Type 0
OptionParts OptionRow.a_name = List ℕ × Option (List ℕ)
OptionParts OptionRow.a_number = ℕ
OptionParts OptionRow.a_text = List ℕ
OptionParts OptionRow.a_list = List (List ℕ × ℕ)

abbrev pub IsOptionPart : (row : OptionRow) → OptionParts row → List Lexeme → Type 0
IsOptionPart OptionRow.a_name x = IsName x.0 then IsGiven IsArgument x.1
IsOptionPart OptionRow.a_number n = IsNumber n
IsOptionPart OptionRow.a_text words = IsText words
IsOptionPart OptionRow.a_list pairs = IsEnclosed (AreListed IsComma IsFieldWeight pairs)

-- No row is left out.
pub all_exprs : (row : ExprRow) → IsListed ExprRow.count after_count row
all_exprs row = grind arith

pub all_tests : (row : TestRow) → IsListed TestRow.between after_between row
all_tests row = grind arith

pub all_sorts : (row : SortRow) → IsListed SortRow.weight after_weight row
all_sorts row = grind arith

pub all_options : (row : OptionRow) → IsListed OptionRow.a_name after_a_name row
all_options row = grind arith
