-- The aggregates of a group (the manual of Sphinx, "SELECT syntax").
use Rattle.std.specs.Prelude.{◌≡◌, ℤ, pos, ◌+ℤ◌, ◌≤ℤ◌, List, All, Contains, fold, length, map}
use Rattle.row_select.specs.Columns.{column_value}
use Rattle.row_select.specs.declared.row.ColumnRef.{ColumnRef}
use Rattle.row_select.specs.declared.row.Row.{Row}
use Rattle.group_facet.specs.Distinct.{first_seen}
use Rattle.group_facet.specs.declared.fold.Fold.{Fold}
use Rattle.group_facet.specs.declared.fold.Fold.TheVariants.{Count, Distinct, Least, Greatest, Sum}

-- what rows have in a column, row by row
abbrev pub column_values : ColumnRef → List Row → List ℤ
column_values column rows = map (column_value column) rows

-- the sum of numbers
abbrev pub total : List ℤ → ℤ
total values = fold (λ sum value. sum +ℤ value) (pos 0) values

-- one of the numbers, and none of them is less
pub record IsLeast (values : List ℤ) (least : ℤ) : Type 0 where
  pub among : Contains values least
  pub none_less : All (λ value. least ≤ℤ value) values

-- one of the numbers, and none of them is greater
pub record IsGreatest (values : List ℤ) (greatest : ℤ) : Type 0 where
  pub among : Contains values greatest
  pub none_greater : All (λ value. value ≤ℤ greatest) values

-- the value of an aggregate over rows
abbrev pub IsFolded : List Row → Fold → ℤ → Type 0
IsFolded rows Count value = value ≡ pos (length rows)
IsFolded rows (Distinct column) value = value ≡ pos (length (first_seen (column_values column rows)))
IsFolded rows (Least column) value = IsLeast (column_values column rows) value
IsFolded rows (Greatest column) value = IsGreatest (column_values column rows) value
IsFolded rows (Sum column) value = value ≡ total (column_values column rows)
