-- what a search has gathered so far
use Rattle.std.specs.Prelude.{◌≡◌, ◌<◌, ◌≤◌, ℕ, List, [], ◌++◌, true, false, Option, Some, None, length, slice_get}
use Rattle.std.specs.List.{AllZip, filter, list_any}
use Rattle.doc_types.specs.declared.documents.DocRow.{DocRow}
use Rattle.doc_types.specs.declared.hits.Hit.{Hit}
use Rattle.doc_types.specs.declared.hits.Hits.{Hits}
use Rattle.doc_types.specs.declared.schema.Schema.{Schema}
use Rattle.doc_types.specs.declared.schema.Value.{Value}
use Rattle.doc_types.specs.Documents.{AreRowsOf}
use Rattle.doc_types.specs.Snapshots.{LayerValue, all_living, living}
use Rattle.op_eval.specs.Hits.{AreHits}
use Rattle.op_eval.specs.Matching.{matches}
use Rattle.op_eval.specs.Streams.{Stream, ahead}
use Rattle.row_select.specs.Filters.{is_weighed}
use Rattle.row_select.specs.declared.row.Row.{Row}
use Rattle.doc_search.specs.Rankings.{weigh}
use Rattle.doc_search.specs.Searches.{IsAskedOf, IsRowOf, passes, weight_of}
use Rattle.doc_search.specs.declared.question.Question.{Question}

-- The question is one of an index with some columns, and the documents are of that index.
pub record IsAskedOfDocs (question : Question) (docs : List DocRow) : Type 0 where
  pub schema : Schema
  pub asked : IsAskedOf schema question
  pub rows : AreRowsOf schema docs

-- The weight is that of the document's hits, or there is none.
pub record IsWeightOf (question : Question) (doc : DocRow) (weighed : Option ℕ) : Type 0 where
  pub hits : List Hit
  pub are : AreHits question.query doc hits
  pub is : weighed ≡ weight_of question doc hits

-- The row has the document's id and its values.
pub record HasRead (doc : DocRow) (row : Row) : Type 0 where
  pub id : row.id ≡ doc.doc.id
  pub values : row.values ≡ doc.doc.values

-- a document as a row without a weight
abbrev pub unweighed : DocRow → Row
unweighed doc = record { id = doc.doc.id; weight = 0; values = doc.doc.values }

-- whatever hits a document has, its weight is 1
abbrev pub GivesOne : Question → Type 0
GivesOne question = (doc : DocRow) (hits : List Hit) → weight_of question doc hits ≡ Some 1

-- the question has neither a word nor a condition
pub record TakesAll (question : Question) : Type 0 where
  pub root : question.query.root ≡ None
  pub none : question.filters ≡ []

-- the document's weight, if it matches, where it has one
abbrev pub IsWeighed : Question → DocRow → Option (Option ℕ) → Type 0
IsWeighed question doc None = matches question.query doc ≡ false
IsWeighed question doc (Some weighed) = (matches question.query doc ≡ true) × IsWeightOf question doc weighed

-- The document matches and weighs so much at most, and no condition looks at that.
pub record WeighsUpTo (question : Question) (doc : DocRow) (most : ℕ) : Type 0 where
  pub fits : matches question.query doc ≡ true
  pub any : list_any is_weighed question.filters ≡ false
  pub least : (hits : List Hit) → AreHits question.query doc hits → (weighed : ℕ) × (weight_of question doc hits ≡ Some weighed) × (weighed ≤ most)

-- No condition is asked, and of these documents none weighs more that matches.
pub record WeighNoMore (question : Question) (docs : List DocRow) (most : ℕ) : Type 0 where
  pub none : question.filters ≡ []
  pub each : (number : ℕ) (doc : DocRow) → slice_get docs number ≡ Some doc → matches question.query doc ≡ true → WeighsUpTo question doc most

-- The values are those of the document, as far as the ranker looks at them.
abbrev pub AreValuesFor : Question → DocRow → List Value → Type 0
AreValuesFor question doc values =
    (hits : Hits) (weights : List ℕ) → weigh question.ranker hits weights values ≡ weigh question.ranker hits weights doc.doc.values

-- The stream of the question over these documents stands at the one of this number.
pub record StandsAt (question : Question) (docs : List DocRow) (number : ℕ) (stream : Stream) : Type 0 where
  pub query : stream.query ≡ question.query
  pub rows : stream.rows ≡ docs
  pub at : stream.at ≡ number
  pub within : number < length docs

-- Of these documents, which match, those that pass were offered to a sink since it was as at first, each with its weight.
pub record Gathers {S : Type 0} (Took : S → List Row → S → Type 0) (question : Question) (first : S) (docs : List DocRow) (here : S) : Type 0 where
  pub rows : List Row
  pub weighed : AllZip (IsRowOf question) docs rows
  pub taken : Took first (filter (passes question) rows) here

-- Amid a layer with these documents, of which some are wanted: the wanted ones before some place were gathered, after those of the
-- layers before, and the numbers of the others are ahead.
pub record IsAmid {S : Type 0} (Took : S → List Row → S → Type 0) (question : Question) (first : S) (docs wanted before : List DocRow) (ahead : List ℕ) (here : S) : Type 0 where
  pub seen : List DocRow
  pub left : List DocRow
  pub all : seen ++ left ≡ wanted
  pub numbers : AllZip (λ number doc. slice_get docs number ≡ Some doc) ahead left
  pub gathers : Gathers Took question first (before ++ seen) here

-- On the way over a layer: whatever was gathered when the sink was as at the layer's start, the documents of the layer that went by
-- have been gathered as well.
pub record IsOnWay {S : Type 0} (Took : S → List Row → S → Type 0) (question : Question) (layer : LayerValue) (start : S) (stream : Stream) (here : S) : Type 0 where
  pub query : stream.query ≡ question.query
  pub docs : stream.rows ≡ layer.rows
  pub dead : stream.dead ≡ layer.dead
  pub amid : (first : S) (before : List DocRow) → Gathers Took question first before start → IsAmid Took question first layer.rows (filter (matches question.query) (living layer)) before (ahead stream) here

-- the documents of some layers that match
abbrev pub matching_in : Question → List LayerValue → List DocRow
matching_in question layers = filter (matches question.query) (all_living layers)
