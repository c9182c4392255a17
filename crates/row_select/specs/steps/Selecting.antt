-- The first of some rows.
use Rattle.std.specs.Prelude.{◌≡◌, ℕ, List, take}
use Rattle.row_select.specs.Orders.{AreInOrder}
use Rattle.row_select.specs.declared.order.Order.{Order}
use Rattle.row_select.specs.declared.row.Row.{Row}

-- these are so many of the rows, or all of them where there are fewer: those that come first, in order
abbrev pub AreFirst : Order → List Row → ℕ → List Row → Type 0
AreFirst order rows count first = (all : List Row) × AreInOrder order rows all × (first ≡ take count all)
