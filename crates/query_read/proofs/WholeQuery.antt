-- What the reader of a whole query makes of the marks of a text.
use Rattle.std.proofs.Common.{◌≡◌, ℕ, List, [], ◌∷◌, Bool, true, false, inl, inr, refl, sym, ◌∙◌, ap, subst}
use Rattle.std.specs.Prelude.{not, Result, Err}
use Rattle.std.specs.Result.{IsErrAnd}
use Rattle.std.proofs.lemmas.Result.{err_from_is_err_and}
use Rattle.srch_base.specs.declared.faults.Or.{Or}
use Rattle.srch_base.specs.declared.faults.Or.TheVariants.{NoMemory, Fault}
use Rattle.token_grammar.specs.Language.{one, optional}
use Rattle.token_grammar.specs.Values.{IsOne, IsPerhaps}
use Rattle.token_grammar.specs.Reading.{TakesPart, FailsPart, IsNextOf, TakesIf}
use Rattle.token_grammar.proofs.Bools.{and_first, not_true, clash}
use Rattle.token_grammar.proofs.Rows.{takes_seq, fails_first, fails_next, takes_as, takes_next}
use Rattle.token_grammar.proofs.Choices.{optional_if, optional_else}
use Rattle.token_grammar.proofs.Stops.{stop_of, value_of}
use Rattle.query_marks.specs.declared.mark.Mark.{Mark}
use Rattle.query_marks.specs.declared.mark.Sign.TheVariants as signs
use Rattle.query_grammar.specs.declared.class.Class.TheVariants as classes
use Rattle.query_tree.specs.declared.query.Node.{Node}
use Rattle.query_grammar.specs.Grammar.{Is, IsGroup, IsExpr, IsQuery}
use Rattle.query_grammar.specs.QueryFaults.{Any}
use Rattle.query_grammar.specs.steps.Answers.{ReadsWhole}
use Rattle.query_grammar.specs.steps.Classes.{fits, is_ended}
use Rattle.query_grammar.specs.steps.MarkAlphabet.{query_marks}
use Rattle.query_read.specs.steps.Parts.{expr_goes_on}
use Rattle.query_grammar.specs.steps.QueryGrammar.{others, expr_of, query}
use Rattle.query_read.proofs.DepthSides.{relaxed_follows}
use Rattle.query_grammar.proofs.MarkSigns.{sign_is}
use Rattle.query_read.proofs.SignSteps.{takes_as_sign}
use Rattle.query_grammar.proofs.QueryAgreement.{query_agrees}

-- `@@relaxed` was taken, or it isn't there
pub relaxed_taken : {before now : List Mark} (answer : Bool) → TakesIf query_marks classes.Relaxed (IsOne (λ m. fits classes.Relaxed m ≡ true)) before answer now → TakesPart query_marks (optional (one classes.Relaxed)) (classes.Relaxed ∷ []) (IsPerhaps (Is signs.Relaxed)) before now
relaxed_taken true (h, n) = optional_if n refl (takes_as (λ u i. inl i) (takes_as_sign classes.Relaxed signs.Relaxed (λ s e. e) h))
relaxed_taken false (same, n) = optional_else n refl (inr refl) same

-- no mark comes after the end
only_end : (m : Mark) (rest : List Mark) → is_ended (m ∷ rest) ≡ true → fits classes.End m ≡ true → rest ≡ []
only_end m [] ended fit = refl
only_end m (n ∷ rest) ended fit = absurd (clash (fits classes.End m) fit (not_true (fits classes.End m) (and_first (not (fits classes.End m)) (is_ended (n ∷ rest)) ended)))

pub end_taken : {before : List Mark} → IsNextOf query_marks classes.End before true → is_ended before ≡ true → TakesPart query_marks (one classes.End) [] (Is signs.End) before []
end_taken {before} n ended =
    let last : n.rest ≡ [] = only_end n.next n.rest (ap is_ended (sym n.is) ∙ ended) n.fits in
    takes_next n (n.is ∙ ap (λ v. n.next ∷ v) last) (λ fit. (n.next, refl, sign_is classes.End n.next fit))

module _ (d : ℕ) where
  -- An expression that can't be read, ..
  pub expr_fails : {P : List Mark → Type 0} {before mid : List Mark} {e : Or ℕ} → TakesPart query_marks (optional (one classes.Relaxed)) (classes.Relaxed ∷ []) P before mid → FailsPart query_marks (expr_of (others d)) expr_goes_on mid e → FailsPart query_marks (query d) [] before e
  unfolding query
  expr_fails relaxed h = fails_next relaxed (relaxed_follows d) (fails_first h refl)

  -- .. one after which a text goes on, ..
  pub end_fails : {P Q : List Mark → Type 0} {before mid there : List Mark} {e : Or ℕ} → TakesPart query_marks (optional (one classes.Relaxed)) (classes.Relaxed ∷ []) P before mid → TakesPart query_marks (expr_of (others d)) expr_goes_on Q mid there → FailsPart query_marks (one classes.End) [] there e → FailsPart query_marks (query d) [] before e
  unfolding query
  end_fails relaxed expr h = fails_next relaxed (relaxed_follows d) (fails_next expr refl h)

  -- .. and a whole text
  pub whole_query : {node : Node} {before mid there : List Mark} → TakesPart query_marks (optional (one classes.Relaxed)) (classes.Relaxed ∷ []) (IsPerhaps (Is signs.Relaxed)) before mid → TakesPart query_marks (expr_of (others d)) expr_goes_on (IsExpr Any (IsGroup Any d) node) mid there → IsNextOf query_marks classes.End there true → is_ended there ≡ true → IsQuery Any d node before
  whole_query relaxed expr n ended = value_of (takes_seq relaxed (relaxed_follows d) (takes_seq expr refl (end_taken n ended)))

-- the stop of a text that is no query
pub stops_whole : {before : List Mark} (e : Or ℕ) → FailsPart query_marks (query 32) [] before e → ReadsWhole before (Err e)
stops_whole NoMemory h = tt
stops_whole (Fault place) h =
    let (stop, s, at) = stop_of (query_agrees 32) h in
    (s.front, stop, record { rest = s.rest; is = s.is; begins = s.begins; stops = s.stops }, at)

-- the exit of a `?`
pub stops_with : {before : List Mark} {e : Or ℕ} (result : Result Node (Or ℕ)) → IsErrAnd result (λ y. y ≡ e) → FailsPart query_marks (query 32) [] before e → ReadsWhole before result
stops_with {before} {e} result err h =
    let (y, is, same) = err_from_is_err_and result err in
    subst (λ (x : Result Node (Or ℕ)). ReadsWhole before x) (sym (is ∙ ap Err same)) (stops_whole e h)
