-- What a SELECT finds whose query has no prefixes: by the search of such queries.
use Rattle.std.specs.Prelude.{◌≡◌, List, ℕ, Result, Ok, Err}
use Rattle.std.specs.List.{AllZip}
use Rattle.srch_base.specs.declared.faults.Or.{Or}
use Rattle.srch_base.specs.declared.faults.Or.TheVariants.{NoMemory, Fault}
use Rattle.doc_types.specs.declared.documents.DocRow.{DocRow}
use Rattle.row_select.specs.declared.row.Row.{Row}
use Rattle.group_facet.specs.Facets.{IsFacet}
use Rattle.doc_search.specs.Searches.{AreFound, IsFirstLacking}
use Rattle.table_search.specs.declared.asked.Asked.{Asked}
use Rattle.table_search.specs.declared.found.Found.{Found}
use Rattle.table_search.specs.declared.found.Unfound.{Unfound}
use Rattle.table_search.specs.declared.found.Unfound.TheVariants.{NoWeight}
use Rattle.table_search.specs.Tables.{ShowsTable}

-- its table and its facets are both of all rows that its question finds
pub record ArePlain (asked : Asked) (docs : List DocRow) (tables : Found) : Type 0 where
  pub found : List Row
  pub are : AreFound asked.question docs found
  pub table : ShowsTable asked.question asked.table found tables.table tables.total_found
  pub facets : AllZip (IsFacet found) asked.facets tables.facets

abbrev pub PlainOr : Asked → List DocRow → Result Found (Or ℕ) → Type 0
PlainOr asked docs (Ok tables) = ArePlain asked docs tables
PlainOr asked docs (Err NoMemory) = Unit {0}
PlainOr asked docs (Err (Fault id)) = IsFirstLacking asked.question docs id

-- what was found, or the document without a weight
abbrev pub IsTold : Result Found (Or ℕ) → Result Found (Or Unfound) → Type 0
IsTold (Ok tables) told = told ≡ Ok tables
IsTold (Err NoMemory) told = told ≡ Err NoMemory
IsTold (Err (Fault id)) told = told ≡ Err (Fault (NoWeight id))
