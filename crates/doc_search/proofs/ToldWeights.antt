-- What a row weighs by what is told of it.
use Rattle.std.proofs.Common.{◌≡◌, ◌≢◌, ℕ, Bool, true, List, [], Option, None, Some, refl, sym, ap, subst, ◌∙◌, arith, true≢false}
use Rattle.std.specs.Prelude.{IfSome, not}
use Rattle.std.specs.List.{list_any}
use Rattle.std.proofs.lemmas.Bool.{eq-eqb}
use Rattle.doc_types.specs.declared.documents.DocRow.{DocRow}
use Rattle.op_eval.specs.Fields.{AreFieldsOf, GoesByFields}
use Rattle.op_eval.specs.Matching.{matches, query_finds}
use Rattle.row_flags.specs.Windows.{AreFieldsTold}
use Rattle.row_flags.specs.declared.windows.Told.{Told}
use Rattle.row_select.specs.Filters.{is_weighed}
use Rattle.doc_search.specs.Searches.{weight_of}
use Rattle.doc_search.specs.declared.question.Question.{Question}
use Rattle.doc_search.specs.declared.told_weights.ToldWeight.{ToldWeight}
use Rattle.doc_search.specs.declared.told_weights.ToldWeight.TheVariants as told_weights
use Rattle.doc_search.specs.steps.Gathering.{IsWeighed, WeighsUpTo}
use Rattle.doc_search.specs.steps.Windows.{MayTell, TellWeights}
use Rattle.doc_search.proofs.OneHits.{one_hits}

-- what is told tells as much as it may, where fields are asked for
pub tell_weights : (question : Question) (weighs : ToldWeight) (docs : List DocRow) (from : ℕ) (told : List Told) (by_fields : Bool) → MayTell question weighs → (weighs ≡ told_weights.Fields → by_fields ≡ true) → (by_fields ≡ true → GoesByFields question.query → AreFieldsTold question.query docs from told) → TellWeights question weighs docs from told
tell_weights question told_weights.One docs from told by_fields may asks exact = λ i doc its here at. may
tell_weights question told_weights.Fields docs from told by_fields may asks exact = λ i doc its here at. (may.0, may.1, exact (asks refl) may.1 i doc its here at)
tell_weights question told_weights.Bound docs from told by_fields may asks exact = λ i doc its here at. tt

-- what is so of something that is there
pub of_some : {X : Type 0} (told : Option X) (x : X) → told ≡ Some x → (P : X → Type 0) → IfSome told P → P x
of_some None x is P so = cc
of_some (Some y) x is P so = let same : y ≡ x = cc in subst P same so

-- a document that matches has a hit in some field
pub some_field : (question : Question) (doc : DocRow) (fields : ℕ) → AreFieldsOf (query_finds question.query doc) fields → matches question.query doc ≡ true → fields ≢ 0
some_field question doc fields are fits none = true≢false (sym fits ∙ are.told ∙ ap not (eq-eqb fields 0 none))

-- a weight that is there
pub if_weighed : (question : Question) (doc : DocRow) (told : Option ℕ) → IsWeighed question doc (Some told) → IfSome told (λ weight. IsWeighed question doc (Some (Some weight)))
if_weighed question doc None weighed = tt
if_weighed question doc (Some weight) weighed = weighed

-- a document weighs no more than it weighs
pub weighed_up_to : (question : Question) (doc : DocRow) (weight : ℕ) → question.filters ≡ [] → IsWeighed question doc (Some (Some weight)) → WeighsUpTo question doc weight
weighed_up_to question doc weight none weighed = record {
  fits = weighed.0;
  any = ap (list_any is_weighed) none;
  least = λ hits are.
      let its = weighed.1 in (
        weight,
        ap (weight_of question doc) (one_hits hits its.hits are.ascend its.are.ascend (λ passes. are.all passes ∙ sym (its.are.all passes))) ∙ sym its.is,
        omega arith,
      );
}
