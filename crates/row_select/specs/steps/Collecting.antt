-- The last of the rows that a collector needs, which orders bring lighter rows forward, and which go by weight and id alone.
use Rattle.std.specs.Prelude.{◌≡◌, ℕ, ◌-◌, ◌<◌, ◌≤◌, Bool, true, ◌&&◌, not, List, All, get_or, if◌then◌else◌, length, take}
use Rattle.std.specs.List.{list_all, list_any}
use Rattle.std.specs.Ordering.{is_le}
use Rattle.row_select.specs.Filters.{is_id, is_weight}
use Rattle.row_select.specs.Orders.{by_keys}
use Rattle.row_select.specs.declared.order.Order.{Order}
use Rattle.row_select.specs.declared.row.ColumnRef.{ColumnRef}
use Rattle.row_select.specs.declared.row.Row.{Row}

-- where there are `end` rows, none of these comes after the last of them
abbrev pub IsBordered : Order → ℕ → List Row → Type 0
IsBordered order end rows = (d : Row) → 0 < end → end ≤ length rows → All (λ row. is_le (by_keys order.keys row (get_or rows (end - 1) d)) ≡ true) (take end rows)

-- a key by which the weight ascends
abbrev pub ascends_by_weight : ColumnRef × Bool → Bool
ascends_by_weight key = is_weight key.0 && not key.1

-- one of the keys brings lighter rows forward
abbrev pub brings_lighter : List (ColumnRef × Bool) → Bool
brings_lighter keys = list_any ascends_by_weight keys

-- a key by which neither a lighter row nor one of a greater id comes earlier: the weight, descending, or the id, ascending
abbrev pub falls_behind : ColumnRef × Bool → Bool
falls_behind key = if is_weight key.0 then key.1 else is_id key.0 && not key.1

-- all keys are such
abbrev pub all_fall_behind : List (ColumnRef × Bool) → Bool
all_fall_behind keys = list_all falls_behind keys
