-- What is known of rows that follow one another by the words of a query alone.
use Rattle.std.specs.Prelude.{◌≡◌, ◌+◌, ◌≤◌, ℕ, List, Some, true, ◌&&◌, ◌==◌, not, All, length, min, slice_get}
use Rattle.std.specs.List.{list_any}
use Rattle.doc_types.specs.declared.documents.DocRow.{DocRow}
use Rattle.doc_types.specs.declared.hits.Hit.{Hit}
use Rattle.query_tree.specs.declared.query.Query.{Query}
use Rattle.query_tree.specs.TreeKeys.{query_keys}
use Rattle.word_rows.specs.Keywords.{has_field, present_in}
use Rattle.op_eval.specs.Fields.{AreFieldsOf}
use Rattle.op_eval.specs.Hits.{AreHits}
use Rattle.op_eval.specs.Matching.{matches, query_finds}
use Rattle.row_flags.specs.declared.windows.Told.{Told}

-- It is told of the row of this number whether the query matches it and it isn't dead; how many of the keywords have their word in it,
-- of which no more than these are counted; and fields in which all its hits lie, as bits.
pub record IsTold (query : Query) (dead : List ℕ) (number : ℕ) (row : DocRow) (told : Told) : Type 0 where
  pub found : told.found ≡ (matches query row && not (list_any (λ d. d == number) dead))
  pub words : told.words ≡ min (present_in row (query_keys query)) 65535
  pub fields : (hits : List Hit) → AreHits query row hits → All (λ hit. has_field told.fields hit.field ≡ true) hits

-- each of so many rows from one on is told of
pub record AreTold (query : Query) (dead : List ℕ) (rows : List DocRow) (from : ℕ) (told : List Told) : Type 0 where
  pub within : from + length told ≤ length rows
  pub each : (i : ℕ) (row : DocRow) (its : Told) → slice_get rows (from + i) ≡ Some row → slice_get told i ≡ Some its → IsTold query dead (from + i) row its

-- the fields that are told of each of them are those that have a hit
abbrev pub AreFieldsTold : Query → List DocRow → ℕ → List Told → Type 0
AreFieldsTold query rows from told =
    (i : ℕ) (row : DocRow) (its : Told) → slice_get rows (from + i) ≡ Some row → slice_get told i ≡ Some its → AreFieldsOf (query_finds query row) its.fields
