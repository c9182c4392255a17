-- Where found rows go, one after the other.
use Rattle.std.specs.Prelude.{◌≡◌, ◌≤◌, ℕ, List, []}
use Rattle.row_select.specs.Collecting.{Collection, Keeps, count_not_after}
use Rattle.row_select.specs.Pages.{page_end}
use Rattle.row_select.specs.declared.row.Row.{Row}

-- the collector was offered these rows: it collects for the same page of the same order, and where nothing was offered to it at
-- first, these are all
pub record Collects (first : Collection) (rows : List Row) (last : Collection) : Type 0 where
  pub order : last.order ≡ first.order
  pub page : last.page ≡ first.page
  pub keeps : Keeps [] first → Keeps rows last

-- a row has the id and the values of another one, and weighs no more
pub record IsLighter (its row : Row) : Type 0 where
  pub id : its.id ≡ row.id
  pub values : its.values ≡ row.values
  pub weight : its.weight ≤ row.weight

-- a row weighs no more than this, and has an id from this one on
pub record IsBeyond (most from : ℕ) (row : Row) : Type 0 where
  pub light : row.weight ≤ most
  pub on : from ≤ row.id

-- a collector needs no such row
abbrev pub NeedsNoneBeyond : ℕ → ℕ → Collection → Type 0
NeedsNoneBeyond most from collection = (its : Row) → IsBeyond most from its → page_end collection.page ≤ count_not_after collection.order its collection.kept

-- a collector needs no row that is lighter than this one: so many kept ones don't come after it as there are up to the page's end
abbrev pub NeedsNoLighter : Collection → Row → Type 0
NeedsNoLighter collection row = (its : Row) → IsLighter its row → page_end collection.page ≤ count_not_after collection.order its collection.kept
