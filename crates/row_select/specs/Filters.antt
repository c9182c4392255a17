-- Which rows a condition of WHERE holds of (the manual of Sphinx, "SELECT syntax").
use Rattle.std.specs.Prelude.{◌≡◌, ℤ, pos, List, Bool, true, false, ◌&&◌, ◌||◌, not, int_lt, int_le, if◌then◌else◌}
use Rattle.std.specs.List.{list_all, list_any}
use Rattle.std.specs.List.Sorted.{IsSorted}
use Rattle.std.specs.Ordering.{int_cmp, int_eq}
use Rattle.row_select.specs.Columns.{column_value}
use Rattle.row_select.specs.declared.filter.CompareOp.{CompareOp}
use Rattle.row_select.specs.declared.filter.CompareOp.TheVariants as operators
use Rattle.row_select.specs.declared.filter.Filter.{Filter}
use Rattle.row_select.specs.declared.filter.Filter.TheVariants as filters
use Rattle.row_select.specs.declared.row.ColumnRef.{ColumnRef}
use Rattle.row_select.specs.declared.row.ColumnRef.TheVariants as columns
use Rattle.row_select.specs.declared.row.Row.{Row}

-- a value compares so with a number
abbrev pub compares : CompareOp → ℤ → ℤ → Bool
compares operators.Equal x y = int_eq x y
compares operators.NotEqual x y = not (int_eq x y)
compares operators.Less x y = int_lt x y
compares operators.Greater x y = int_lt y x
compares operators.AtMost x y = int_le x y
compares operators.AtLeast x y = int_le y x

-- a number stands in a list
abbrev pub is_among : List ℤ → ℤ → Bool
is_among numbers x = list_any (λ number. int_eq number x) numbers

-- a condition holds of a row
abbrev pub holds : Filter → Row → Bool
holds (filters.Compare column op number) row = compares op (column_value column row) number
holds (filters.Among column numbers negated) row =
    if negated then not (is_among numbers (column_value column row)) else is_among numbers (column_value column row)
holds (filters.Between column low high) row = int_le low (column_value column row) && int_le (column_value column row) high

-- all conditions hold of a row
abbrev pub all_hold : List Filter → Row → Bool
all_hold conditions row = list_all (λ condition. holds condition row) conditions

-- a column is the weight
abbrev pub is_weight : ColumnRef → Bool
is_weight columns.Id = false
is_weight (columns.Attr place) = false
is_weight columns.Weight = true

-- a condition is one on the weight
abbrev pub is_weighed : Filter → Bool
is_weighed (filters.Compare column op number) = is_weight column
is_weighed (filters.Among column numbers negated) = is_weight column
is_weighed (filters.Between column low high) = is_weight column

-- all those conditions hold of a row that aren't on the weight
abbrev pub hold_unweighed : List Filter → Row → Bool
hold_unweighed conditions row = list_all (λ condition. is_weighed condition || holds condition row) conditions

-- all those hold that are on the weight
abbrev pub hold_weighed : List Filter → Row → Bool
hold_weighed conditions row = list_all (λ condition. not (is_weighed condition) || holds condition row) conditions

-- a column is the id
abbrev pub is_id : ColumnRef → Bool
is_id columns.Id = true
is_id (columns.Attr place) = false
is_id columns.Weight = false

-- a comparison is for one number
abbrev pub is_equal : CompareOp → Bool
is_equal operators.Equal = true
is_equal operators.NotEqual = false
is_equal operators.Less = false
is_equal operators.Greater = false
is_equal operators.AtMost = false
is_equal operators.AtLeast = false

-- a condition asks for one of some ids
abbrev pub lists_ids : Filter → Bool
lists_ids (filters.Compare column op number) = is_id column && is_equal op
lists_ids (filters.Among column numbers negated) = is_id column && not negated
lists_ids (filters.Between column low high) = false

-- a comparison is for numbers from one on, or for those up to one
abbrev pub is_from : CompareOp → Bool
is_from operators.Equal = true
is_from operators.NotEqual = false
is_from operators.Less = false
is_from operators.Greater = true
is_from operators.AtMost = false
is_from operators.AtLeast = true

abbrev pub is_up_to : CompareOp → Bool
is_up_to operators.Equal = true
is_up_to operators.NotEqual = false
is_up_to operators.Less = true
is_up_to operators.Greater = false
is_up_to operators.AtMost = true
is_up_to operators.AtLeast = false

-- a condition asks for ids from one on, or for those up to one
abbrev pub bounds_below : Filter → Bool
bounds_below (filters.Compare column op number) = is_id column && is_from op
bounds_below (filters.Among column numbers negated) = false
bounds_below (filters.Between column low high) = is_id column

abbrev pub bounds_above : Filter → Bool
bounds_above (filters.Compare column op number) = is_id column && is_up_to op
bounds_above (filters.Among column numbers negated) = false
bounds_above (filters.Between column low high) = is_id column

-- These numbers, in order, have the id of each row of which those conditions hold that aren't on its weight.
pub record AreIdsOf (conditions : List Filter) (numbers : List ℤ) : Type 0 where
  pub ascend : IsSorted int_cmp numbers
  pub all : (row : Row) → hold_unweighed conditions row ≡ true → is_among numbers (pos row.id) ≡ true

-- No row of which those conditions hold that aren't on its weight has an id below this number.
abbrev pub IsLowOf : List Filter → ℤ → Type 0
IsLowOf conditions low = (row : Row) → hold_unweighed conditions row ≡ true → int_lt (pos row.id) low ≡ false

-- nor one above this number
abbrev pub IsHighOf : List Filter → ℤ → Type 0
IsHighOf conditions high = (row : Row) → hold_unweighed conditions row ≡ true → int_lt high (pos row.id) ≡ false
