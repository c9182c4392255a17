-- Rows of a layer that are gone over many at a time.
use Rattle.std.specs.Prelude.{◌≡◌, ◌+◌, ◌≤◌, ◌++◌, ℕ, List, [], Some, Result, All, length, slice_get}
use Rattle.doc_types.specs.declared.documents.DocRow.{DocRow}
use Rattle.doc_types.specs.Snapshots.{LayerValue, living}
use Rattle.op_eval.specs.Fields.{AreFieldsOf, GoesByFields}
use Rattle.op_eval.specs.Matching.{query_finds}
use Rattle.op_eval.specs.Streams.{Stream, matching_from}
use Rattle.row_flags.specs.declared.windows.Told.{Told}
use Rattle.row_select.specs.declared.row.Row.{Row}
use Rattle.srch_base.specs.declared.faults.Or.{Or}
use Rattle.doc_search.specs.declared.lacking.NoWeight.{NoWeight}
use Rattle.doc_search.specs.declared.question.Question.{Question}
use Rattle.doc_search.specs.declared.told_weights.ToldWeight.{ToldWeight}
use Rattle.doc_search.specs.declared.told_weights.ToldWeight.TheVariants as told_weights
use Rattle.doc_search.specs.steps.ByFields.{LooksAtFields}
use Rattle.doc_search.specs.steps.Gathering.{GivesOne, IsOnWay, WeighsUpTo}
use Rattle.doc_search.specs.steps.Lacking.{IfStopped, LacksSome}

-- the question's query on its way over these documents, at the one of this number
abbrev pub standing : Question → List DocRow → List ℕ → ℕ → Stream
standing question docs dead at = record { query = question.query; rows = docs; dead = dead; at = at }

-- Whatever layer the documents are of: what was gathered of it up to a row was gathered up to another one.
abbrev pub Carries : {S : Type 0} → (S → List Row → S → Type 0) → Question → List DocRow → List ℕ → ℕ → ℕ → S → S → Type 0
Carries {S} Took question docs dead from to old new =
    (layer : LayerValue) (start : S) → IsOnWay Took question layer start (standing question docs dead from) old → IsOnWay Took question layer start (standing question docs dead to) new

-- Whatever layer they are of: a search that stops there stops at one of its documents without a weight.
abbrev pub StopsIn : {S A : Type 0} → (S → List Row → S → Type 0) → Question → List DocRow → List ℕ → ℕ → S → Result A (Or NoWeight) → Type 0
StopsIn {S} {A} Took question docs dead from old result =
    (layer : LayerValue) (start : S) → Took start [] start → IsOnWay Took question layer start (standing question docs dead from) old → IfStopped {A = A} result (LacksSome question (living layer))

-- Of the rows from one on up to another, these match and aren't dead: so many, and none of them weighs more than that.
pub record IsRun (question : Question) (docs : List DocRow) (dead : List ℕ) (from to most rows : ℕ) : Type 0 where
  pub numbers : List ℕ
  pub ahead : matching_from from question.query docs dead ≡ numbers ++ matching_from to question.query docs dead
  pub long : length numbers ≡ rows
  pub each : All (λ n. (from ≤ n) × ((doc : DocRow) → slice_get docs n ≡ Some doc → WeighsUpTo question doc most)) numbers

-- What may be told of a row tells what it weighs, of such a question.
abbrev pub MayTell : Question → ToldWeight → Type 0
MayTell question told_weights.One = GivesOne question
MayTell question told_weights.Fields = LooksAtFields question.ranker × GoesByFields question.query
MayTell question told_weights.Bound = Unit {0}

-- And this is told of it: where its fields are asked for, those that have a hit.
abbrev pub TellsWeight : Question → ToldWeight → DocRow → Told → Type 0
TellsWeight question told_weights.One doc its = GivesOne question
TellsWeight question told_weights.Fields doc its = LooksAtFields question.ranker × GoesByFields question.query × AreFieldsOf (query_finds question.query doc) its.fields
TellsWeight question told_weights.Bound doc its = Unit {0}

-- of each of the rows from one on of which it is told
abbrev pub TellWeights : Question → ToldWeight → List DocRow → ℕ → List Told → Type 0
TellWeights question weighs docs from told = (i : ℕ) (doc : DocRow) (its : Told) → slice_get docs (from + i) ≡ Some doc → slice_get told i ≡ Some its → TellsWeight question weighs doc its
