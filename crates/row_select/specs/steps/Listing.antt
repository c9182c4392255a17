-- The column of a condition, and the numbers that it lists.
use Rattle.std.specs.Prelude.{◌≡◌, ℤ, pos, List, [], ◌∷◌, Bool, true, false, ◌&&◌, ◌||◌, not, int_le, int_lt, if◌then◌else◌, IsPermutation}
use Rattle.std.specs.List.Sorted.{IsSorted}
use Rattle.std.specs.Ordering.{int_cmp}
use Rattle.row_select.specs.Filters.{compares, holds, is_among, is_weighed}
use Rattle.row_select.specs.declared.filter.Filter.{Filter}
use Rattle.row_select.specs.declared.filter.Filter.TheVariants as filters
use Rattle.row_select.specs.declared.row.ColumnRef.{ColumnRef}
use Rattle.row_select.specs.declared.row.Row.{Row}

-- the column that a condition looks at
abbrev pub column_of : Filter → ColumnRef
column_of (filters.Compare column op number) = column
column_of (filters.Among column numbers negated) = column
column_of (filters.Between column low high) = column

-- a condition holds of a row that has this number in the condition's column
abbrev pub passes : Filter → ℤ → Bool
passes (filters.Compare column op number) value = compares op value number
passes (filters.Among column numbers negated) value = if negated then not (is_among numbers value) else is_among numbers value
passes (filters.Between column low high) value = int_le low value && int_le value high

-- the numbers with which a condition compares another one, where these are single ones
abbrev pub listed : Filter → List ℤ
listed (filters.Compare column op number) = number ∷ []
listed (filters.Among column numbers negated) = numbers
listed (filters.Between column low high) = []

-- these are the same numbers, in order
pub record AreListed (condition : Filter) (numbers : List ℤ) : Type 0 where
  pub same : IsPermutation (listed condition) numbers
  pub ascend : IsSorted int_cmp numbers

-- These numbers, in order, have the id of each row of which the condition holds.
pub record ListsIds (condition : Filter) (numbers : List ℤ) : Type 0 where
  pub ascend : IsSorted int_cmp numbers
  pub all : (row : Row) → (is_weighed condition || holds condition row) ≡ true → is_among numbers (pos row.id) ≡ true

-- no row of which the condition holds has an id below this number, or above it
abbrev pub IsLow : Filter → ℤ → Type 0
IsLow condition low = (row : Row) → (is_weighed condition || holds condition row) ≡ true → int_lt (pos row.id) low ≡ false

abbrev pub IsHigh : Filter → ℤ → Type 0
IsHigh condition high = (row : Row) → (is_weighed condition || holds condition row) ≡ true → int_lt high (pos row.id) ≡ false
