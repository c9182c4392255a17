-- What a SELECT finds by the query that is asked in the place of its own.
use Rattle.std.proofs.Common.{◌≡◌, ℕ, List, subst, sym}
use Rattle.std.specs.Prelude.{All, Result, Ok, Err}
use Rattle.srch_base.specs.declared.faults.Or.{Or}
use Rattle.srch_base.specs.declared.faults.Or.TheVariants.{NoMemory, Fault}
use Rattle.doc_types.specs.declared.documents.DocRow.{DocRow}
use Rattle.doc_types.specs.declared.schema.Schema.{Schema}
use Rattle.doc_types.specs.Documents.{AreRowsOf, IsDocOf}
use Rattle.doc_types.specs.Snapshots.{LayerValue, all_living, living}
use Rattle.query_tree.specs.declared.query.Query.{Query}
use Rattle.prefix_search.specs.Searches.{IsReadOf}
use Rattle.prefix_search.specs.Asking.{IsAskedFor}
use Rattle.prefix_search.proofs.Carried.{asked_by, first_carried, found_carried, living_words}
use Rattle.table_search.specs.Tables.{AreTables, TablesOr}
use Rattle.table_search.specs.declared.asked.Asked.{Asked}
use Rattle.table_search.specs.declared.found.Found.{Found}
use Rattle.table_search.specs.declared.found.Unfound.{Unfound}
use Rattle.table_search.specs.declared.found.Unfound.TheVariants.{NoWeight}
use Rattle.table_search.specs.steps.Plain.{ArePlain, IsTold, PlainOr}

-- the SELECT with that query
abbrev pub with_query : Asked → Query → Asked
with_query asked other = record asked { question = asked_by asked.question other }

module _ (schema : Schema) (asked : Asked) (layers : List LayerValue) (other : Query) (read : IsReadOf schema asked.question) (rows : All (λ layer. AreRowsOf schema layer.rows) layers) (its : IsAskedFor asked.question.query (all_living layers) other) where
  abbrev docs : List DocRow
  docs = all_living layers

  carried : (plain : Result Found (Or ℕ)) (told : Result Found (Or Unfound)) → PlainOr (with_query asked other) docs plain → IsTold plain told → TablesOr asked docs told
  carried (Ok tables) told are is =
      let its_tables : AreTables asked docs tables = record {
        found = are.found;
        are = found_carried asked.question docs other read.numbered (living_words schema layers rows) its are.found are.are;
        table = are.table;
        facets = are.facets;
      } in
      subst (TablesOr asked docs) (sym is) its_tables
  carried (Err NoMemory) told are is = subst (TablesOr asked docs) (sym is) tt
  carried (Err (Fault id)) told are is =
      subst (TablesOr asked docs) (sym is) (first_carried asked.question docs other read.numbered (living_words schema layers rows) its id are)

pub tables_carried : (schema : Schema) (asked : Asked) (layers : List LayerValue) (other : Query) → IsReadOf schema asked.question → All (λ layer. AreRowsOf schema layer.rows) layers → IsAskedFor asked.question.query (all_living layers) other
    → (plain : Result Found (Or ℕ)) (told : Result Found (Or Unfound)) → PlainOr (with_query asked other) (all_living layers) plain → IsTold plain told → TablesOr asked (all_living layers) told
tables_carried = carried
