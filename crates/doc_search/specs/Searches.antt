-- What a search finds among documents, each with its weight, and what is shown of that. "SELECT syntax" and "Search results
-- ranking" of the manual.
use Rattle.std.specs.Prelude.{◌≡◌, ◌≤◌, ℕ, List, Bool, true, Option, None, Result, Ok, Err, All, Contains, is_some, length, unwrap_or}
use Rattle.std.specs.List.{AllZip, filter, list_all}
use Rattle.doc_types.specs.declared.documents.DocRow.{DocRow}
use Rattle.doc_types.specs.declared.hits.Hit.{Hit}
use Rattle.doc_types.specs.declared.schema.Schema.{Schema}
use Rattle.doc_types.specs.declared.schema.TheConstants.{MAX_FIELDS}
use Rattle.op_eval.specs.Hits.{AreHits}
use Rattle.op_eval.specs.Matching.{matches}
use Rattle.op_eval.specs.Numbered.{HasPositions}
use Rattle.row_select.specs.Columns.{row_of}
use Rattle.row_select.specs.Filters.{holds}
use Rattle.row_select.specs.Pages.{IsTop}
use Rattle.row_select.specs.declared.row.Row.{Row}
use Rattle.srch_base.specs.declared.faults.Or.{Or}
use Rattle.srch_base.specs.declared.faults.Or.TheVariants.{NoMemory, Fault}
use Rattle.doc_search.specs.Rankings.{weigh}
use Rattle.doc_search.specs.declared.question.Question.{Question}

-- what a document with these hits weighs, where the ranker gives it a weight
abbrev pub weight_of : Question → DocRow → List Hit → Option ℕ
weight_of question doc hits = weigh question.ranker (record { keywords = question.query.keywords; list = hits }) question.weights.list doc.doc.values

-- the row passes all conditions
abbrev pub passes : Question → Row → Bool
passes question row = list_all (λ condition. holds condition row) question.filters

-- A document is found as this row: by its id, with the weight of its hits, and with its values. One without a weight passes no
-- conditions: 0 stands for its weight there.
pub record IsRowOf (question : Question) (doc : DocRow) (row : Row) : Type 0 where
  pub hits : List Hit
  pub are : AreHits question.query doc hits
  pub id : row.id ≡ doc.doc.id
  pub weight : row.weight ≡ unwrap_or (weight_of question doc hits) 0
  pub ranked : passes question row ≡ true → is_some (weight_of question doc hits) ≡ true
  pub values : row.values ≡ doc.doc.values

-- all documents that match and pass the conditions, each with its weight
pub record AreFound (question : Question) (docs : List DocRow) (found : List Row) : Type 0 where
  pub rows : List Row
  pub weighed : AllZip (IsRowOf question) (filter (matches question.query) docs) rows
  pub passing : found ≡ filter (passes question) rows

-- A document matches and passes the conditions, and has no weight; in conditions on the weight 0 stands for it.
pub record LacksWeight (question : Question) (doc : DocRow) : Type 0 where
  pub hits : List Hit
  pub are : AreHits question.query doc hits
  pub fits : matches question.query doc ≡ true
  pub passing : passes question (row_of 0 doc) ≡ true
  pub none : weight_of question doc hits ≡ None

-- the least id of those of the documents that lack a weight
pub record IsFirstLacking (question : Question) (docs : List DocRow) (id : ℕ) : Type 0 where
  pub doc : DocRow
  pub among : Contains docs doc
  pub lacks : LacksWeight question doc
  pub is : id ≡ doc.doc.id
  pub least : (other : DocRow) → Contains docs other → LacksWeight question other → id ≤ other.doc.id

-- What a search answers: all is found, and each has its weight; or this is the first document without one. Without memory nothing is
-- said.
abbrev pub FindsOr : {A : Type 0} → (List Row → A → Type 0) → Question → List DocRow → Result A (Or ℕ) → Type 0
FindsOr Is question docs (Ok answer) = (found : List Row) × AreFound question docs found × Is found answer
FindsOr Is question docs (Err NoMemory) = Unit {0}
FindsOr Is question docs (Err (Fault id)) = IsFirstLacking question docs id

-- what is shown of the documents: the page of what is found, in order
abbrev pub AreShown : Question → List DocRow → List Row → Type 0
AreShown question docs shown = (found : List Row) × AreFound question docs found × IsTop found question.order question.page shown

-- The question is one of an index with these columns: its keywords have query positions, and there is a weight for each field.
pub record IsAskedOf (schema : Schema) (question : Question) : Type 0 where
  pub positions : HasPositions question.query
  pub few_fields : length schema.fields ≤ MAX_FIELDS
  pub weights : length question.weights.list ≡ length schema.fields
  pub each_weight : All (λ weight. (1 ≤ weight) × (weight ≤ 65535)) question.weights.list
  pub attrs : question.attrs ≡ length schema.attrs
