-- What a search finds among documents by a query that may have prefixes. It is what a search finds without them (`doc_search`), but
-- that a prefix takes each word that begins so and that one of the documents has. "Wildcard searching" of the manual of Sphinx.
use Rattle.std.specs.Prelude.{◌≡◌, ◌≤◌, ◌<◌, ℕ, List, Bool, true, None, Option, Result, Ok, Err, All, AllPairs, Contains, IsTrue, is_some, unwrap_or}
use Rattle.std.specs.List.{AllZip, filter}
use Rattle.doc_types.specs.declared.documents.DocRow.{DocRow}
use Rattle.doc_types.specs.declared.hits.Hit.{Hit}
use Rattle.doc_types.specs.declared.schema.Schema.{Schema}
use Rattle.query_tree.specs.declared.query.Query.{Query}
use Rattle.query_tree.specs.TreeKeys.{query_keys}
use Rattle.occ_lists.specs.OccLists.{SameMembers}
use Rattle.op_eval.specs.Finding.{Found}
use Rattle.op_eval.specs.Hits.{comes_before}
use Rattle.op_eval.specs.Numbered.{IsNumbered}
use Rattle.prefix_terms.specs.Prefixes.{AreExpanded, Lists, words_together}
use Rattle.prefix_terms.specs.declared.expansion.TheConstants.{MAX_PREFIX_WORDS}
use Rattle.prefix_finds.specs.Numbers.{number_with}
use Rattle.prefix_finds.specs.Taken.{query_takes}
use Rattle.row_select.specs.Columns.{row_of}
use Rattle.row_select.specs.declared.row.Row.{Row}
use Rattle.doc_search.specs.Searches.{IsAskedOf, passes, weight_of}
use Rattle.doc_search.specs.declared.question.Question.{Question}

-- what the query finds in a document, its prefixes having these words
abbrev pub finding : Lists → Query → DocRow → Found
finding lists query doc = query_takes query.root doc (number_with lists query)

-- these are all hits of what is found, in order, each once
pub record AreHitsOf (found : Found) (hits : List Hit) : Type 0 where
  pub ascend : AllPairs (λ hit later. IsTrue (comes_before hit later)) hits
  pub all : SameMembers hits found.hits

-- A document is found as this row: by its id, with the weight of its hits, and with its values. One without a weight passes no
-- conditions: 0 stands for its weight there.
pub record IsRowBy (find : DocRow → Found) (question : Question) (doc : DocRow) (row : Row) : Type 0 where
  pub hits : List Hit
  pub are : AreHitsOf (find doc) hits
  pub id : row.id ≡ doc.doc.id
  pub weight : row.weight ≡ unwrap_or (weight_of question doc hits) 0
  pub ranked : passes question row ≡ true → is_some (weight_of question doc hits) ≡ true
  pub values : row.values ≡ doc.doc.values

-- the document matches
abbrev pub fits : (DocRow → Found) → DocRow → Bool
fits find doc = (find doc).matches

-- all documents that match and pass the conditions, each with its weight, where the words of the query's prefixes aren't too many
pub record AreFound (question : Question) (docs : List DocRow) (found : List Row) : Type 0 where
  pub lists : Lists
  pub words : AreExpanded docs (query_keys question.query) lists
  pub few : words_together lists ≤ MAX_PREFIX_WORDS
  pub rows : List Row
  pub weighed : AllZip (IsRowBy (finding lists question.query) question) (filter (fits (finding lists question.query)) docs) rows
  pub passing : found ≡ filter (passes question) rows

-- A document matches and passes the conditions, and has no weight; in conditions on the weight 0 stands for it.
pub record LacksWeightBy (find : DocRow → Found) (question : Question) (doc : DocRow) : Type 0 where
  pub hits : List Hit
  pub are : AreHitsOf (find doc) hits
  pub fits : fits find doc ≡ true
  pub passing : passes question (row_of 0 doc) ≡ true
  pub none : weight_of question doc hits ≡ None

-- the least id of those of the documents that lack a weight, where the words of the query's prefixes aren't too many
pub record IsFirstLacking (question : Question) (docs : List DocRow) (id : ℕ) : Type 0 where
  pub lists : Lists
  pub words : AreExpanded docs (query_keys question.query) lists
  pub few : words_together lists ≤ MAX_PREFIX_WORDS
  pub doc : DocRow
  pub among : Contains docs doc
  pub lacks : LacksWeightBy (finding lists question.query) question doc
  pub is : id ≡ doc.doc.id
  pub least : (other : DocRow) → Contains docs other → LacksWeightBy (finding lists question.query) question other → id ≤ other.doc.id

-- the words of the query's prefixes are so many, and these are too many
pub record AreTooMany (query : Query) (docs : List DocRow) (count : ℕ) : Type 0 where
  pub lists : Lists
  pub words : AreExpanded docs (query_keys query) lists
  pub is : count ≡ words_together lists
  pub many : MAX_PREFIX_WORDS < count

-- The question is one of an index with these columns, and the keywords of its query are numbered as those of a text are.
pub record IsReadOf (schema : Schema) (question : Question) : Type 0 where
  pub asked : IsAskedOf schema question
  pub numbered : IsNumbered question.query
