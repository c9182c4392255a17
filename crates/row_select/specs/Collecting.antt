-- The rows that a collector keeps of those that were offered to it.
use Rattle.std.specs.Prelude.{ℕ, ◌≤◌, List, ◌++◌, All, IsPermutation}
use Rattle.std.specs.List.{count_by}
use Rattle.std.specs.Ordering.{is_le}
use Rattle.row_select.specs.Orders.{by_keys}
use Rattle.row_select.specs.Pages.{page_end}
use Rattle.row_select.specs.declared.order.Order.{Order}
use Rattle.row_select.specs.declared.page.Page.{Page}
use Rattle.row_select.specs.declared.row.Row.{Row}

-- a collector, as contracts see it: what it collects for, and the rows that it keeps
pub record Collection : Type 0 where
  pub order : Order
  pub page : Page
  pub kept : List Row

-- how many of the rows don't come after a row
abbrev pub count_not_after : Order → Row → List Row → ℕ
count_not_after order row rows = count_by (λ (other : Row). is_le (by_keys order.keys other row)) rows

-- the kept rows are enough to tell the first `end` of those that were offered: for each row that was left out, so many kept
-- ones don't come after it
pub record AreEnough (order : Order) (end : ℕ) (offered kept : List Row) : Type 0 where
  pub rest : List Row
  pub all : IsPermutation offered (kept ++ rest)
  pub after : All (λ row. end ≤ count_not_after order row kept) rest

-- the rows that were offered to a collector, as far as its page needs them
abbrev pub Keeps : List Row → Collection → Type 0
Keeps offered collection = AreEnough collection.order (page_end collection.page) offered collection.kept
