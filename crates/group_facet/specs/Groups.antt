-- The groups of rows (the manual of Sphinx, "SELECT syntax": GROUP BY, WITHIN GROUP ORDER BY).
use Rattle.std.specs.Prelude.{◌≡◌, ℤ, pos, Bool, false, List, All, Contains, Option, None, Some, filter, map}
use Rattle.std.specs.List.{AllZip}
use Rattle.std.specs.Ordering.{int_eq, is_lt}
use Rattle.row_select.specs.Columns.{column_value}
use Rattle.row_select.specs.Orders.{by_keys}
use Rattle.row_select.specs.declared.row.ColumnRef.{ColumnRef}
use Rattle.row_select.specs.declared.row.Row.{Row}
use Rattle.group_facet.specs.Distinct.{first_seen}
use Rattle.group_facet.specs.Folds.{IsFolded}
use Rattle.group_facet.specs.declared.grouping.Group.{Group}
use Rattle.group_facet.specs.declared.grouping.GroupRow.{GroupRow}

-- the group of a row, by its key: what it has in the column that is grouped by, 0 without one
abbrev pub group_key : Option ColumnRef → Row → ℤ
group_key None row = pos 0
group_key (Some column) row = column_value column row

-- the rows of one group
abbrev pub part : Option ColumnRef → ℤ → List Row → List Row
part by key rows = filter (λ row. int_eq key (group_key by row)) rows

-- one of the rows, and none comes before it
pub record IsFirst (keys : List (ColumnRef × Bool)) (rows : List Row) (first : Row) : Type 0 where
  pub among : Contains rows first
  pub none_before : All (λ row. is_lt (by_keys keys row first) ≡ false) rows

-- the group of these rows: the first of them by WITHIN GROUP ORDER BY, and the aggregates over all of them
pub record IsGroup (group : Group) (key : ℤ) (rows : List Row) (shown : GroupRow) : Type 0 where
  pub key_is : shown.key ≡ key
  pub best : IsFirst group.within.keys rows shown.best
  pub folded : AllZip (IsFolded rows) group.folds shown.folded

-- the groups of rows: one for each key, in the order in which the keys are first seen, each of all rows with its key
abbrev pub AreGroups : Group → List Row → List GroupRow → Type 0
AreGroups group rows groups = AllZip (λ key shown. IsGroup group key (part group.by key rows) shown) (first_seen (map (group_key group.by) rows)) groups
