-- The rows that may match a query, one after another.
use Rattle.std.specs.Prelude.{◌≡◌, ◌+◌, ◌<◌, ◌≤◌, ℕ, List, [], map, length, drop, slice_get, ◌&&◌, ◌==◌, not, Bool, true, false, Option, Some, None}
use Rattle.std.specs.List.{filter, list_any, enumerate_from}
use Rattle.doc_types.specs.declared.documents.DocRow.{DocRow}
use Rattle.doc_types.specs.declared.hits.Hits.{Hits}
use Rattle.query_tree.specs.declared.query.Query.{Query}
use Rattle.op_eval.specs.Hits.{AreHits}
use Rattle.op_eval.specs.Matching.{matches}

-- the rows from this one on that match and aren't dead, by their numbers, ascending
abbrev pub matching_from : ℕ → Query → List DocRow → List ℕ → List ℕ
matching_from from query rows dead =
    map (λ e. e.0) (filter (λ e. matches query e.1 && not (list_any (λ d. d == e.0) dead)) (drop from (enumerate_from 0 rows)))

-- A query on its way over rows, some of which are dead: those before the row at which it stands went by.
pub record Stream : Type 0 where
  pub query : Query
  pub rows : List DocRow
  pub dead : List ℕ
  pub at : ℕ

-- the rows still to come that match and aren't dead
abbrev pub ahead : Stream → List ℕ
ahead stream = matching_from stream.at stream.query stream.rows stream.dead

-- It went on to a row that isn't dead, and nothing of what was ahead is lost.
pub record GoesTo (old : Stream) (row : ℕ) (new : Stream) : Type 0 where
  pub stands : new ≡ record old { at = row }
  pub on : old.at ≤ row
  pub within : row < length old.rows
  pub living : list_any (λ d. d == row) old.dead ≡ false
  pub kept : ahead new ≡ ahead old

-- it went on to this row; or to the end, where nothing is ahead
abbrev pub GoesOn : Stream → Option ℕ → Stream → Type 0
GoesOn old None new = (ahead old ≡ []) × (new ≡ record old { at = length old.rows })
GoesOn old (Some row) new = GoesTo old row new

-- the document matches, and these are its hits; or it doesn't, and the hits are as before
abbrev pub Tells : Query → DocRow → Bool → Hits → Hits → Type 0
Tells query doc true before hits = (matches query doc ≡ true) × (hits.keywords ≡ query.keywords) × AreHits query doc hits.list
Tells query doc false before hits = (matches query doc ≡ false) × (hits ≡ before)

-- it was told of the row at which it stood, and goes on behind that
pub record Takes (old : Stream) (told : Bool) (before hits : Hits) (new : Stream) : Type 0 where
  pub stands : new ≡ record old { at = old.at + 1 }
  pub tells : (doc : DocRow) → slice_get old.rows old.at ≡ Some doc → Tells old.query doc told before hits
