-- The order of rows is a total order.
use Rattle.std.proofs.Common.{Bool, true, false, List, [], ◌∷◌}
use Rattle.std.specs.Cmp.{IsTotalOrder}
use Rattle.std.proofs.lemmas.Cmp.{nat_cmp_total, int_cmp_total, on_total, then_total, back_total}
use Rattle.row_select.specs.Columns.{column_value}
use Rattle.row_select.specs.Orders.{by_key, by_keys}
use Rattle.row_select.specs.declared.row.ColumnRef.{ColumnRef}
use Rattle.row_select.specs.declared.row.Row.{Row}

by_key_total : (column : ColumnRef) (descending : Bool) → IsTotalOrder (by_key (column, descending))
by_key_total column true = back_total (on_total (column_value column) int_cmp_total)
by_key_total column false = on_total (column_value column) int_cmp_total

pub by_keys_total : (keys : List (ColumnRef × Bool)) → IsTotalOrder (by_keys keys)
by_keys_total [] = on_total (λ (row : Row). row.id) nat_cmp_total
by_keys_total (key ∷ keys) = then_total (by_key_total key.0 key.1) (by_keys_total keys)
