-- Rows that a search passes over, since they have none of the ids that a condition lists.
use Rattle.std.specs.Prelude.{◌≡◌, ◌+◌, ◌<◌, ◌≤◌, ℕ, ℤ, pos, List, Bool, true, false, Option, Some, IfSome, drop, length, slice_get, int_lt}
use Rattle.std.specs.List.Sorted.{IsSorted}
use Rattle.std.specs.Ordering.{int_cmp}
use Rattle.doc_types.specs.declared.documents.DocRow.{DocRow}
use Rattle.doc_types.specs.Snapshots.{LayerValue}
use Rattle.op_eval.specs.Streams.{GoesOn, Stream}
use Rattle.row_select.specs.Filters.{hold_unweighed, is_among}
use Rattle.row_select.specs.declared.row.Row.{Row}
use Rattle.doc_search.specs.declared.listed_rows.ListedRows.{ListedRows}
use Rattle.doc_search.specs.declared.question.Question.{Question}
use Rattle.doc_search.specs.steps.Gathering.{IsOnWay, unweighed}

-- those conditions hold of the document that look at no weight
abbrev pub holds_of : Question → DocRow → Bool
holds_of question doc = hold_unweighed question.filters (unweighed doc)

-- It is the first row from one on whose id isn't below a number, or the end.
pub record IsFirstFrom (docs : List DocRow) (from : ℕ) (number : ℤ) (row : ℕ) : Type 0 where
  pub on : from ≤ row
  pub within : row ≤ length docs
  pub below : (k : ℕ) (doc : DocRow) → from ≤ k → k < row → slice_get docs k ≡ Some doc → int_lt (pos doc.doc.id) number ≡ true
  pub rest : (k : ℕ) (doc : DocRow) → row ≤ k → slice_get docs k ≡ Some doc → int_lt (pos doc.doc.id) number ≡ false

-- Between these two rows, from one on, the first row is whose id isn't below a number.
pub record IsHalved (docs : List DocRow) (from : ℕ) (number : ℤ) (low high : ℕ) : Type 0 where
  pub on : from ≤ low
  pub order : low ≤ high
  pub within : high ≤ length docs
  pub below : (k : ℕ) (doc : DocRow) → from ≤ k → k < low → slice_get docs k ≡ Some doc → int_lt (pos doc.doc.id) number ≡ true
  pub rest : (k : ℕ) (doc : DocRow) → high ≤ k → slice_get docs k ≡ Some doc → int_lt (pos doc.doc.id) number ≡ false

-- each document from a row on of which they hold has one of these ids
abbrev pub HaveIds : Question → List DocRow → ℕ → List ℤ → Type 0
HaveIds question docs from ids = (k : ℕ) (doc : DocRow) → from ≤ k → slice_get docs k ≡ Some doc → holds_of question doc ≡ true → is_among ids (pos doc.doc.id) ≡ true

-- They hold of no document from a row on up to another one.
pub record GoBy (question : Question) (docs : List DocRow) (from to : ℕ) : Type 0 where
  pub on : from ≤ to
  pub within : to ≤ length docs
  pub fail : (k : ℕ) (doc : DocRow) → from ≤ k → k < to → slice_get docs k ≡ Some doc → holds_of question doc ≡ false

-- It is so up to a row, and those from there on have one of these ids.
pub record IsPast (question : Question) (docs : List DocRow) (at from : ℕ) (ids : List ℤ) : Type 0 where
  pub by : GoBy question docs at from
  pub left : HaveIds question docs from ids

-- no document before this row passes, or none from this row on
abbrev pub IsFirstOf : Question → List DocRow → ℕ → Type 0
IsFirstOf question docs first = (k : ℕ) (doc : DocRow) → k < first → slice_get docs k ≡ Some doc → holds_of question doc ≡ false

abbrev pub IsEndOf : Question → List DocRow → ℕ → Type 0
IsEndOf question docs end = (k : ℕ) (doc : DocRow) → end ≤ k → slice_get docs k ≡ Some doc → holds_of question doc ≡ false

-- What is looked for from a row on.
pub record Leaves (question : Question) (docs : List DocRow) (from : ℕ) (rows : ListedRows) : Type 0 where
  pub first : IsFirstOf question docs rows.first
  pub ends : IsEndOf question docs rows.end
  pub listed : IfSome rows.ids (λ ids. IsSorted int_cmp ids.now × HaveIds question docs from (drop rows.passed ids.now))

-- A search went on from a row: past those that fail, and then to the next that may match, or to the end.
pub record GoesPast (question : Question) (docs : List DocRow) (at : ℕ) (old : Stream) (row : Option ℕ) (new : Stream) (rows : ListedRows) : Type 0 where
  pub from : ℕ
  pub by : GoBy question docs at from
  pub on : GoesOn (record old { at = from }) row new
  pub leaves : IfSome row (λ its. Leaves question docs (its + 1) rows)

-- On the way over a layer, at this row, with these ids left.
pub record IsLed {S : Type 0} (Took : S → List Row → S → Type 0) (question : Question) (layer : LayerValue) (start : S) (stream : Stream) (at : ℕ) (rows : ListedRows) (here : S) : Type 0 where
  pub way : IsOnWay Took question layer start stream here
  pub stands : stream.at ≡ at
  pub within : at ≤ length layer.rows
  pub leaves : Leaves question layer.rows at rows
