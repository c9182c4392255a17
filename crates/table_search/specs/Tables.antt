-- What a SELECT finds among documents: its table, its facets, and how much it finds in all. "SELECT syntax" of the manual.
use Rattle.std.specs.Prelude.{◌≡◌, ℕ, List, Result, Ok, Err, length}
use Rattle.std.specs.List.{AllZip}
use Rattle.doc_types.specs.declared.documents.DocRow.{DocRow}
use Rattle.row_select.specs.Pages.{IsTop}
use Rattle.row_select.specs.declared.row.Row.{Row}
use Rattle.group_facet.specs.Facets.{IsFacet}
use Rattle.group_facet.specs.Groups.{AreGroups}
use Rattle.group_facet.specs.ShownGroups.{AreTop, kept}
use Rattle.group_facet.specs.declared.grouping.GroupRow.{GroupRow}
use Rattle.srch_base.specs.declared.faults.Or.{Or}
use Rattle.srch_base.specs.declared.faults.Or.TheVariants.{NoMemory, Fault}
use Rattle.doc_search.specs.declared.question.Question.{Question}
use Rattle.prefix_search.specs.Searches.{AreFound, AreTooMany, IsFirstLacking}
use Rattle.table_search.specs.declared.asked.Asked.{Asked}
use Rattle.table_search.specs.declared.asked.GroupTable.{GroupTable}
use Rattle.table_search.specs.declared.asked.Table.{Table}
use Rattle.table_search.specs.declared.asked.Table.TheVariants as tables
use Rattle.table_search.specs.declared.found.Found.{Found}
use Rattle.table_search.specs.declared.found.FoundTable.{FoundTable}
use Rattle.table_search.specs.declared.found.FoundTable.TheVariants as found_tables
use Rattle.table_search.specs.declared.found.Unfound.{Unfound}
use Rattle.table_search.specs.declared.found.Unfound.TheVariants.{NoWeight, TooManyWords}

-- the groups of the found rows: those that HAVING keeps are counted, and the page of them is shown
pub record ShowsGroups (asked : GroupTable) (found : List Row) (shown : List GroupRow) (total : ℕ) : Type 0 where
  pub groups : List GroupRow
  pub are : AreGroups asked.group found groups
  pub top : AreTop asked.page groups shown
  pub counts : total ≡ length (kept asked.page.having groups)

-- what is shown of the found rows, and how many rows or groups there are: the page of the rows, or their groups
abbrev pub ShowsTable : Question → Table → List Row → FoundTable → ℕ → Type 0
ShowsTable question tables.Rows found (found_tables.Rows shown) total = IsTop found question.order question.page shown × (total ≡ length found)
ShowsTable question (tables.Groups asked) found (found_tables.Groups shown) total = ShowsGroups asked found shown total
ShowsTable question asked found shown total = ⊥

-- what a SELECT finds: its table and its facets are both of all rows that its question finds
pub record AreTables (asked : Asked) (docs : List DocRow) (tables : Found) : Type 0 where
  pub found : List Row
  pub are : AreFound asked.question docs found
  pub table : ShowsTable asked.question asked.table found tables.table tables.total_found
  pub facets : AllZip (IsFacet found) asked.facets tables.facets

-- What is answered to a SELECT: its tables; or how many words the prefixes of its query have, where these are too many; or the least id
-- of a document that it finds without a weight, on whatever page that is. Without memory nothing is said.
abbrev pub TablesOr : Asked → List DocRow → Result Found (Or Unfound) → Type 0
TablesOr asked docs (Ok tables) = AreTables asked docs tables
TablesOr asked docs (Err NoMemory) = Unit {0}
TablesOr asked docs (Err (Fault (TooManyWords count))) = AreTooMany asked.question.query docs count
TablesOr asked docs (Err (Fault (NoWeight id))) = IsFirstLacking asked.question docs id
