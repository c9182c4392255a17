-- The page of the rows that a select found.
use Rattle.std.specs.Prelude.{◌≡◌, ℕ, ◌+◌, List, take, drop, min}
use Rattle.row_select.specs.Orders.{AreInOrder}
use Rattle.row_select.specs.declared.order.Order.{Order}
use Rattle.row_select.specs.declared.page.Page.{Page}
use Rattle.row_select.specs.declared.row.Row.{Row}

-- the page of rows that are in order: only the first `max_matches` exist for it, `offset` of them are passed over, and at most
-- `count` follow
abbrev pub cut : {X : Type 0} → Page → List X → List X
cut page rows = take page.count (drop page.offset (take page.max_matches rows))

-- how many rows, from the first on, are enough to tell the page
abbrev pub page_end : Page → ℕ
page_end page = min page.max_matches (page.offset + page.count)

-- what is shown of the found rows: the page of them, once they are in order
abbrev pub IsTop : List Row → Order → Page → List Row → Type 0
IsTop rows order page shown = (sorted : List Row) × AreInOrder order rows sorted × (shown ≡ cut page sorted)
