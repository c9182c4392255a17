-- How far marks reach.
use Rattle.std.proofs.Common.{◌≡◌, ℕ, Bool, true, false, nat_lt, max, ◌||◌, ◌&&◌, List, [], ◌∷◌, ◌++◌, refl, sym, ◌∙◌, ap, arith}
use Rattle.std.proofs.lemmas.Bool.Decides.{nat_tests}
use Rattle.std.proofs.lemmas.List.Folds.{list_any-append}
use Rattle.mark_scan.specs.declared.mark.Mark.{Mark}
use Rattle.mark_scan.specs.declared.mark.MarkKind.{MarkKind}
use Rattle.doc_tokens.specs.steps.TokenReader.{reaches}

-- a test of one mark
one_mark : (kind : Bool) (far : Bool) → ((kind && far) || false) ≡ (kind && far)
one_mark true true = refl
one_mark true false = refl
one_mark false far = refl

reaches-push : (is_kind : MarkKind → Bool) (place : ℕ) (passed : List Mark) (mark : Mark) → reaches is_kind place (passed ++ mark ∷ []) ≡ (reaches is_kind place passed || (is_kind mark.kind && nat_lt place mark.to))
reaches-push is_kind place passed mark =
    list_any-append (λ (m : Mark). is_kind m.kind && nat_lt place m.to) passed (mark ∷ [])
    ∙ ap (λ (b : Bool). reaches is_kind place passed || b) (one_mark (is_kind mark.kind) (nat_lt place mark.to))

lt-max : (p a b : ℕ) → nat_lt p (max a b) ≡ (nat_lt p a || nat_lt p b)
lt-max p a b = grind (arith, nat_tests)

or_false : (b : Bool) → b ≡ (b || false)
or_false true = refl
or_false false = refl

-- one mark more of the kind
pub reaches_more : (is_kind : MarkKind → Bool) (passed : List Mark) (mark : Mark) (old new : ℕ) → is_kind mark.kind ≡ true → new ≡ max old mark.to → ((place : ℕ) → nat_lt place old ≡ reaches is_kind place passed) → (place : ℕ) → nat_lt place new ≡ reaches is_kind place (passed ++ mark ∷ [])
reaches_more is_kind passed mark old new kind is reach place =
    ap (nat_lt place) is
    ∙ lt-max place old mark.to
    ∙ (λ i. reach place i || (sym kind i && nat_lt place mark.to))
    ∙ sym (reaches-push is_kind place passed mark)

-- one mark more of another kind
pub reaches_same : (is_kind : MarkKind → Bool) (passed : List Mark) (mark : Mark) (old : ℕ) → is_kind mark.kind ≡ false → ((place : ℕ) → nat_lt place old ≡ reaches is_kind place passed) → (place : ℕ) → nat_lt place old ≡ reaches is_kind place (passed ++ mark ∷ [])
reaches_same is_kind passed mark old kind reach place =
    reach place
    ∙ or_false (reaches is_kind place passed)
    ∙ ap (λ (b : Bool). reaches is_kind place passed || (b && nat_lt place mark.to)) (sym kind)
    ∙ sym (reaches-push is_kind place passed mark)
