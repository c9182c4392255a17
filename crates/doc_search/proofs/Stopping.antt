-- Where a search ends at a document without a weight, this is one of the documents that it goes over.
use Rattle.std.proofs.Common.{◌≡◌, ◌∙◌, ℕ, ◌+◌, ◌<◌, zero, suc, true, cond, List, [], ◌∷◌, ◌++◌, Some, Result, Err, slice_get, length, get_or, sym, ap, subst, arith}
use Rattle.std.specs.Prelude.{Contains, IsErrAnd}
use Rattle.std.specs.List.{AllZip, filter}
use Rattle.std.proofs.lemmas.List.Elements.{Contains-append_left, Contains-append_right}
use Rattle.std.proofs.lemmas.Result.{err_from_is_err_and}
use Rattle.srch_base.specs.declared.faults.Or.{Or}
use Rattle.srch_base.specs.declared.faults.Or.TheVariants.{NoMemory, Fault}
use Rattle.doc_types.specs.declared.documents.DocRow.{DocRow}
use Rattle.doc_types.specs.Snapshots.{LayerValue, all_living, living}
use Rattle.op_eval.specs.Matching.{matches}
use Rattle.op_eval.specs.Streams.{GoesTo, Stream, ahead}
use Rattle.op_eval.proofs.NextMatches.{ahead_here}
use Rattle.row_select.specs.declared.row.Row.{Row}
use Rattle.doc_search.specs.declared.lacking.NoWeight.{NoWeight}
use Rattle.doc_search.specs.declared.question.Question.{Question}
use Rattle.doc_search.specs.steps.Gathering.{IsAmid, IsOnWay}
use Rattle.doc_search.specs.steps.Lacking.{IfStopped, LacksSome}
use Rattle.doc_search.proofs.Gathering.{gathers_none}
use Rattle.doc_search.proofs.Members.{in_filter}

-- what a search says where it ended so
pub when_stopped : (P Q : Type 0) (end : Or NoWeight) → (P → Q) → IfStopped {A = Unit {0}} (Err end) P → IfStopped {A = Unit {0}} (Err end) Q
when_stopped P Q NoMemory leads so = tt
when_stopped P Q (Fault stop) leads so = leads so

-- and what is handed on says the same
pub stopped_with : (P : Type 0) (e : Or NoWeight) (result : Result (Unit {0}) (Or NoWeight)) → IsErrAnd result (λ y. y ≡ e) → IfStopped {A = Unit {0}} (Err e) P → IfStopped {A = Unit {0}} result P
stopped_with P e result err so =
    let (y, is, same) = err_from_is_err_and result err in
    subst (λ (r : Result (Unit {0}) (Or NoWeight)). IfStopped {A = Unit {0}} r P) (sym (is ∙ ap Err same)) so

-- ---- within a layer
-- the document of the next number that is ahead is left
in_left : (docs : List DocRow) (row : ℕ) (ahead : List ℕ) (left : List DocRow) (doc : DocRow) → AllZip (λ number its. slice_get docs number ≡ Some its) (row ∷ ahead) left → slice_get docs row ≡ Some doc → Contains left doc
in_left docs row ahead [] doc numbers at = absurd numbers
in_left docs row ahead (first ∷ left) doc numbers at =
    let there : slice_get docs row ≡ Some first = numbers.0 in
    let same : first ≡ doc = cc in
    (0, omega arith, same)

module _ {S : Type 0} (Took : S → List Row → S → Type 0) (question : Question) where
  amid_living : (layer : LayerValue) (first : S) (before : List DocRow) (number : ℕ) (doc : DocRow) (now later : List ℕ) (here : S) → now ≡ number ∷ later → slice_get layer.rows number ≡ Some doc → IsAmid Took question first layer.rows (filter (matches question.query) (living layer)) before now here → Contains (living layer) doc
  amid_living layer first before number doc now later here next at amid =
      let left : Contains amid.left doc = in_left layer.rows number later amid.left doc (subst (λ numbers. AllZip (λ number its. slice_get layer.rows number ≡ Some its) numbers amid.left) next amid.numbers) at in
      let wanted : Contains (filter (matches question.query) (living layer)) doc = subst (λ list. Contains list doc) amid.all (Contains-append_right amid.seen amid.left doc left) in
      (in_filter (matches question.query) (living layer) doc wanted).0

  -- the document at which the stream stands lives, if it matches
  pub on_way_living : (layer : LayerValue) (number : ℕ) (old mid : Stream) (start here : S) (doc : DocRow) → Took start [] start → GoesTo old number mid → IsOnWay Took question layer start old here → slice_get layer.rows number ≡ Some doc → matches question.query doc ≡ true → Contains (living layer) doc
  on_way_living layer number old mid start here doc nothing next way at fits =
      let behind = ahead (record old { at = number + 1 }) in
      let now : ahead old ≡ number ∷ behind =
      sym next.kept
      ∙ ap ahead next.stands
      ∙ ahead_here (record old { at = number }) doc (ap (λ rows. slice_get rows number) way.docs ∙ at) next.living
      ∙ ap (λ query. cond (matches query doc) (number ∷ []) [] ++ behind) way.query
      ∙ ap (λ b. cond b (number ∷ []) [] ++ behind) fits in
      amid_living layer start [] number doc (ahead old) behind here now at (way.amid start [] (gathers_none Took question start nothing))

-- ---- over layers
in_layers : (layers : List LayerValue) (i : ℕ) (layer : LayerValue) (doc : DocRow) → i < length layers → layer ≡ get_or layers i layer → Contains (living layer) doc → Contains (all_living layers) doc
in_layers [] i layer doc within at there = absurd (omega (arith, within))
in_layers (first ∷ layers) zero layer doc within at there = Contains-append_left (living first) (all_living layers) doc (subst (λ (its : LayerValue). Contains (living its) doc) at there)
in_layers (first ∷ layers) (suc i) layer doc within at there = Contains-append_right (living first) (all_living layers) doc (in_layers layers i layer doc (omega (arith, within)) at there)

pub layers_stopped : (question : Question) (layers : List LayerValue) (i : ℕ) (layer : LayerValue) → i < length layers → layer ≡ get_or layers i layer → (end : Or NoWeight) → IfStopped {A = Unit {0}} (Err end) (LacksSome question (living layer)) → IfStopped {A = Unit {0}} (Err end) (LacksSome question (all_living layers))
layers_stopped question layers i layer within at end so =
    when_stopped (LacksSome question (living layer)) (LacksSome question (all_living layers)) end (λ some. (some.0, in_layers layers i layer some.0 within at some.1, some.2)) so
