-- The order of rows.
use Rattle.std.specs.Prelude.{List, [], ◌∷◌, Bool, if◌then◌else◌, IsPermutation}
use Rattle.std.specs.List.Sorted.{IsSorted}
use Rattle.std.specs.Ordering.{int_cmp, nat_cmp, ordering_then}
use Rattle.std.specs.declared.cmp.Ordering.{Ordering}
use Rattle.row_select.specs.Columns.{column_value}
use Rattle.row_select.specs.declared.order.Order.{Order}
use Rattle.row_select.specs.declared.row.ColumnRef.{ColumnRef}
use Rattle.row_select.specs.declared.row.Row.{Row}

-- how two rows stand by what they hold in a key's column, the other way round where the key descends
abbrev pub by_key : ColumnRef × Bool → Row → Row → Ordering
by_key key row other =
    if key.1 then int_cmp (column_value key.0 other) (column_value key.0 row)
    else int_cmp (column_value key.0 row) (column_value key.0 other)

-- how two rows stand: by the first key that tells them apart, and by id, ascending, where none does
abbrev pub by_keys : List (ColumnRef × Bool) → Row → Row → Ordering
by_keys [] row other = nat_cmp row.id other.id
by_keys (key ∷ keys) row other = ordering_then (by_key key row other) (by_keys keys row other)

-- the same rows, in order: none comes before the one that stands before it
pub record AreInOrder (order : Order) (rows sorted : List Row) : Type 0 where
  pub same : IsPermutation rows sorted
  pub ascend : IsSorted (by_keys order.keys) sorted
