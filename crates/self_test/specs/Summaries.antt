-- What a summary says of documents: what the SELECTs of a selftest find in them. A word finds those that have it, and a phrase of two
-- words those where they stand next to each other in this order; a group is found where a document has it.
use Rattle.std.specs.Prelude.{◌≡◌, ◌≢◌, ℕ, zero, suc, ◌+◌, List, [], ◌∷◌, ◌++◌, AllPairs, length, map, codes, decimal}
use Rattle.doc_types.specs.Rows.{rows_of}
use Rattle.doc_types.specs.declared.documents.DocRow.{DocRow}
use Rattle.index_conf.specs.declared.conf.IndexConf.{IndexConf}
use Rattle.ql_answers.specs.Reading.{table_set}
use Rattle.ql_select.specs.Selections.{Selects}
use Rattle.ql_select.specs.declared.selection.Selection.{Selection}
use Rattle.ql_tree.specs.declared.select.Select.{Select}
use Rattle.step_history.specs.History.{chunks_for}
use Rattle.table_search.specs.Tables.{AreTables}
use Rattle.table_search.specs.declared.found.Found.{Found}
use Rattle.self_test.specs.Loads.{AreStored}
use Rattle.self_test.specs.Own.{IsOurs}
use Rattle.self_test.specs.Texts.{count_select}
use Rattle.self_test.specs.declared.generator.Document.{Document}
use Rattle.self_test.specs.declared.summary.Count.{Count}
use Rattle.self_test.specs.declared.summary.Count.TheVariants.{Words, Pairs, Groups}
use Rattle.self_test.specs.declared.summary.Summary.{Summary}

-- how many words, phrases or groups there are
abbrev pub many : Count → ℕ
many Words = 50
many Pairs = 50
many Groups = 5

-- In these rows of an index, in some order, a SELECT finds so many. What it finds is the same in each order.
pub record FindsIn (conf : IndexConf) (rows : List DocRow) (select : Select) (number : ℕ) : Type 0 where
  pub selection : Selection
  pub selects : Selects conf select selection
  pub ordered : List DocRow
  pub same : rows_of ordered ≡ rows_of rows
  pub apart : AllPairs (λ row other. row.doc.id ≢ other.doc.id) ordered
  pub found : Found
  pub finds : AreTables selection.asked ordered found
  pub shown : length (table_set selection.shown found.table).rows ≡ number

-- the sum of what the SELECTs for the numbers below this one find
abbrev pub FindUpTo : IndexConf → List DocRow → (ℕ → Select) → ℕ → ℕ → Type 0
FindUpTo conf rows select zero sum = sum ≡ 0
FindUpTo conf rows select (suc number) sum = (earlier : ℕ) × (here : ℕ) × FindUpTo conf rows select number earlier × FindsIn conf rows (select number) here × (sum ≡ earlier + here)

-- what is counted of all words, phrases or groups, together
abbrev pub AreCounts : IndexConf → List DocRow → Count → ℕ → Type 0
AreCounts conf rows count sum = FindUpTo conf rows (count_select count) (many count) sum

-- What a selftest says of documents: they are stored in an index that is a selftest's, under the ids from 1 on, and each number is the
-- sum of what the SELECTs find there. There is one chunk, or none where there are no documents.
pub record IsSummary (documents : List Document) (summary : Summary) : Type 0 where
  pub conf : IndexConf
  pub ours : IsOurs conf
  pub rows : List DocRow
  pub stored : AreStored conf 0 documents (map (λ row. row.doc) rows)
  pub all : summary.documents ≡ length documents
  pub words : AreCounts conf rows Words summary.words
  pub pairs : AreCounts conf rows Pairs summary.pairs
  pub groups : AreCounts conf rows Groups summary.groups
  pub chunks : summary.chunks ≡ chunks_for rows

-- The five lines of a summary.
abbrev pub lines_of : Summary → List ℕ
lines_of summary =
    codes "documents " ++ decimal summary.documents ++ 10 ∷ codes "words " ++ decimal summary.words ++ 10 ∷ codes "pairs " ++ decimal summary.pairs
    ++ 10 ∷ codes "groups " ++ decimal summary.groups ++ 10 ∷ codes "chunks " ++ decimal summary.chunks ++ 10 ∷ []
