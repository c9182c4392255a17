-- What SHOW META tells of a SELECT. "SHOW META syntax" of the manual.
use Rattle.std.specs.Prelude.{ℕ, List, min}
use Rattle.doc_types.specs.declared.documents.DocRow.{DocRow}
use Rattle.doc_search.specs.declared.question.Question.{Question}
use Rattle.table_search.specs.Keywords.{word_docs}
use Rattle.table_search.specs.declared.asked.Asked.{Asked}
use Rattle.table_search.specs.declared.asked.Table.{Table}
use Rattle.table_search.specs.declared.asked.Table.TheVariants as tables
use Rattle.table_search.specs.declared.found.Found.{Found}
use Rattle.ql_answers.specs.declared.meta.Meta.{Meta}

-- how many rows or groups there are for the page
abbrev pub most_of : Question → Table → ℕ
most_of question tables.Rows = question.page.max_matches
most_of question (tables.Groups asked) = asked.page.page.max_matches

abbrev pub max_matches : Asked → ℕ
max_matches asked = most_of asked.question asked.table

-- what is told of a SELECT that found this among these documents
abbrev pub meta_of : Asked → Found → List DocRow → Meta
meta_of asked found docs = record {
  total = min found.total_found (max_matches asked);
  total_found = found.total_found;
  words = word_docs asked.question.query docs;
}
