-- NEAR as two passes: each x with what comes soon after it, and each y with what comes soon after it.
use Rattle.std.proofs.Common.{◌≡◌, ℕ, Bool, true, false, List, ◌++◌, append_assoc, refl, sym, ◌∙◌, ap, arith, inl, inr}
use Rattle.std.specs.Prelude.{◌&&◌, ◌||◌, min, max}
use Rattle.std.specs.List.{list_any}
use Rattle.std.proofs.lemmas.Bool.{cases_eq, eq-eqb, ne_eqb}
use Rattle.std.proofs.lemmas.List.Folds.{list_any-append}
use Rattle.occ_lists.specs.declared.occ.Occ.{Occ}
use Rattle.occ_lists.specs.Joined.{pairs, same_field, is_near, hull, near}
use Rattle.occ_lists.specs.OccLists.{SameMembers}
use Rattle.occ_lists.specs.steps.Beside.{goes_soon}
use Rattle.occ_lists.proofs.Members.{any_alike, any_any, any_or, any_pairs, same_append, same_is, same_refl, same_trans}
use Rattle.occ_lists.proofs.Ordered.{occ_equal}

either_way : (s a b p : Bool) → ((s && (a || b)) && p) ≡ (((s && a) && p) || ((s && b) && p))
either_way true true true true = refl
either_way true true true false = refl
either_way true true false true = refl
either_way true true false false = refl
either_way true false b p = refl
either_way false a b p = refl

min_turned : (a b : ℕ) → min a b ≡ min b a
min_turned a b = omega arith

max_turned : (a b : ℕ) → max a b ≡ max b a
max_turned a b = omega arith

hull_turned : (x y : Occ) → x.field ≡ y.field → hull x y ≡ hull y x
hull_turned x y same = occ_equal (hull x y) (hull y x) same (min_turned x.first y.first) (max_turned x.last y.last)

goes_near : ℕ → Occ → Occ → Bool
goes_near n x y = same_field x y && (is_near n x y || is_near n y x)

near_either : (n : ℕ) (p : Occ → Bool) (x y : Occ) → (goes_near n x y && p (hull x y)) ≡ ((goes_soon n x y && p (hull x y)) || (goes_soon n y x && p (hull y x)))
unfolding goes_near
near_either n p x y = elim (cases_eq x.field y.field) [
  | inl same ↦ (let turned : (same_field y x && is_near n y x) && p (hull y x) ≡ (same_field x y && is_near n y x) && p (hull x y) =
      ap (λ (s : Bool). (s && is_near n y x) && p (hull y x)) (eq-eqb y.field x.field (sym same) ∙ sym (eq-eqb x.field y.field same))
      ∙ ap (λ h. (same_field x y && is_near n y x) && p h) (sym (hull_turned x y same)) in
      either_way (same_field x y) (is_near n x y) (is_near n y x) (p (hull x y))
      ∙ ap (λ b. ((same_field x y && is_near n x y) && p (hull x y)) || b) (sym turned))
  | inr apart ↦
      ap (λ (s : Bool). (s && (is_near n x y || is_near n y x)) && p (hull x y)) (ne_eqb x.field y.field apart)
      ∙ sym (ap (λ (s : Bool). ((s && is_near n x y) && p (hull x y)) || (goes_soon n y x && p (hull y x))) (ne_eqb x.field y.field apart)
      ∙ ap (λ (s : Bool). (s && is_near n y x) && p (hull y x)) (ne_eqb y.field x.field (λ e. apart (sym e))))
]

two_passes : (n : ℕ) (xs ys : List Occ) → SameMembers (pairs (goes_soon n) hull xs ys ++ pairs (goes_soon n) hull ys xs) (near n xs ys)
unfolding goes_near
two_passes n xs ys = λ p.
    let one : Occ → Occ → Bool = λ x y. goes_soon n x y && p (hull x y) in
    let other : Occ → Occ → Bool = λ x y. goes_soon n y x && p (hull y x) in
    list_any-append p (pairs (goes_soon n) hull xs ys) (pairs (goes_soon n) hull ys xs)
    ∙ ap (λ b. b || list_any p (pairs (goes_soon n) hull ys xs)) (any_pairs p (goes_soon n) hull xs ys)
    ∙ ap (λ b. list_any (λ x. list_any (one x) ys) xs || b) (any_pairs p (goes_soon n) hull ys xs ∙ sym (any_any other xs ys))
    ∙ sym (any_or (λ x. list_any (one x) ys) (λ x. list_any (other x) ys) xs)
    ∙ any_alike (λ x. list_any (one x) ys || list_any (other x) ys) (λ x. list_any (λ y. goes_near n x y && p (hull x y)) ys)
    (λ x. sym (any_or (one x) (other x) ys) ∙ any_alike (λ y. one x y || other x y) (λ y. goes_near n x y && p (hull x y)) (λ y. sym (near_either n p x y)) ys) xs
    ∙ sym (any_pairs p (goes_near n) hull xs ys)

-- after what stood there before
pub passed_twice : (n : ℕ) (xs ys old new : List Occ) → new ≡ (old ++ pairs (goes_soon n) hull xs ys) ++ pairs (goes_soon n) hull ys xs → SameMembers new (old ++ near n xs ys)
passed_twice n xs ys old new is =
    same_trans new (old ++ (pairs (goes_soon n) hull xs ys ++ pairs (goes_soon n) hull ys xs)) (old ++ near n xs ys)
    (same_is new _ (is ∙ append_assoc old (pairs (goes_soon n) hull xs ys) (pairs (goes_soon n) hull ys xs)))
    (same_append old old _ _ (same_refl old) (two_passes n xs ys))
