-- The logic of three values: what is told of a whole by what is told of its parts.
use Rattle.std.proofs.Common.{◌≡◌, refl, sym, ◌∙◌, Bool, true, false}
use Rattle.std.specs.Prelude.{◌||◌, ◌&&◌, not, if◌then◌else◌}
use Rattle.std.proofs.lemmas.Bool.{and_from, and_left, and_right, not_from_true, not_from_false}
use Rattle.word_rows.specs.Keywords.{Spans}
use Rattle.op_eval.specs.declared.verdict.Verdict.{Verdict}
use Rattle.op_eval.specs.declared.verdict.Verdict.TheVariants as verdicts
use Rattle.op_eval.specs.steps.Verdicts.{Concerns, Tells, negation, conjunction, doubt}

either_is : (a b : Bool) → not (not a && not b) ≡ (a || b)
either_is true b = refl
either_is false true = refl
either_is false false = refl

module _ (spanned : Bool) where
  -- two that are the same for the spans in question
  pub tells_as : (p q : Spans → Bool) (v : Verdict) → ((spans : Spans) → Concerns spanned spans → q spans ≡ p spans) → Tells spanned p v → Tells spanned q v
  tells_as p q verdicts.No is told = λ spans concerns. is spans concerns ∙ told spans concerns
  tells_as p q verdicts.Open is told = tt
  tells_as p q verdicts.Yes is told = λ spans concerns. is spans concerns ∙ told spans concerns

  pub tells_not : (p : Spans → Bool) (v : Verdict) → Tells spanned p v → Tells spanned (λ spans. not (p spans)) (negation v)
  tells_not p verdicts.No told = λ spans concerns. not_from_false (p spans) (told spans concerns)
  tells_not p verdicts.Open told = tt
  tells_not p verdicts.Yes told = λ spans concerns. not_from_true (p spans) (told spans concerns)

  pub tells_both : (p q : Spans → Bool) (v w : Verdict) → Tells spanned p v → Tells spanned q w → Tells spanned (λ spans. p spans && q spans) (conjunction v w)
  tells_both p q verdicts.No w told other = λ spans concerns. and_left (p spans) (q spans) (told spans concerns)
  tells_both p q verdicts.Open verdicts.No told other = λ spans concerns. and_right (p spans) (q spans) (other spans concerns)
  tells_both p q verdicts.Open verdicts.Open told other = tt
  tells_both p q verdicts.Open verdicts.Yes told other = tt
  tells_both p q verdicts.Yes verdicts.No told other = λ spans concerns. and_right (p spans) (q spans) (other spans concerns)
  tells_both p q verdicts.Yes verdicts.Open told other = tt
  tells_both p q verdicts.Yes verdicts.Yes told other = λ spans concerns. and_from (p spans) (q spans) (told spans concerns) (other spans concerns)

  pub tells_either : (p q : Spans → Bool) (v w : Verdict) → Tells spanned p v → Tells spanned q w → Tells spanned (λ spans. p spans || q spans) (negation (conjunction (negation v) (negation w)))
  tells_either p q v w told other =
      tells_as (λ spans. not (not (p spans) && not (q spans))) (λ spans. p spans || q spans) (negation (conjunction (negation v) (negation w))) (λ spans concerns. sym (either_is (p spans) (q spans)))
      (tells_not (λ spans. not (p spans) && not (q spans)) (conjunction (negation v) (negation w))
      (tells_both (λ spans. not (p spans)) (λ spans. not (q spans)) (negation v) (negation w) (tells_not p v told) (tells_not q w other)))

  -- one that may hold only where the other does
  pub tells_doubt : (p q : Spans → Bool) (v : Verdict) → ((spans : Spans) → Concerns spanned spans → p spans ≡ false → q spans ≡ false) → Tells spanned p v → Tells spanned q (doubt v)
  tells_doubt p q verdicts.No fails told = λ spans concerns. fails spans concerns (told spans concerns)
  tells_doubt p q verdicts.Open fails told = tt
  tells_doubt p q verdicts.Yes fails told = tt

  -- an item of an AND, by its node
  pub tells_item : (negated : Bool) (p : Spans → Bool) (v : Verdict) → Tells spanned p v → Tells spanned (λ spans. if negated then not (p spans) else p spans) (if negated then negation v else v)
  tells_item true p v told = tells_not p v told
  tells_item false p v told = told
