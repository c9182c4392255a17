-- Places close to one: the first that could be tells of all, and where none is close NEAR makes nothing.
use Rattle.std.proofs.Common.{◌≡◌, ℕ, suc, ◌-◌, Bool, true, false, List, [], ◌∷◌, length, map, refl, sym, ◌∙◌, ap, subst, arith, inl, inr}
use Rattle.std.specs.Prelude.{◌&&◌, ◌||◌, not, All}
use Rattle.std.specs.List.{filter, list_any}
use Rattle.std.proofs.lemmas.Bool.{cases_Bool, true≢false}
use Rattle.std.proofs.lemmas.Bool.Decides.{nat_tests}
use Rattle.std.proofs.lemmas.List.Elements.{filter_passes}
use Rattle.occ_lists.specs.declared.occ.Occ.{Occ}
use Rattle.occ_lists.specs.Joined.{hull, is_near, near, same_field}
use Rattle.occ_lists.specs.Places.{ArePlaces, at_place, is_before}
use Rattle.occ_lists.specs.Close.{is_close}
use Rattle.occ_lists.proofs.Members.{any_alike, any_filter, any_map, any_pairs, any_weaker}

-- not before the first place that could be close to x
is_late : ℕ → ℕ × ℕ → ℕ × ℕ → Bool
is_late n x y = not (is_before y (x.0, x.1 - n))

close_late : (n : ℕ) (x y : ℕ × ℕ) → is_close n x y ≡ (is_late n x y && is_close n x y)
unfolding is_late
close_late n x y = grind (arith, nat_tests)

-- what comes after one that isn't close
none_later : (n : ℕ) (x y z : ℕ × ℕ) → is_late n x y ≡ true → is_close n x y ≡ false → is_before y z ≡ true → is_close n x z ≡ false
unfolding is_late
none_later n x y z late far after = grind (arith, nat_tests)

pub empty_by : {X : Type 0} (xs : List X) → length xs ≡ 0 → xs ≡ []
empty_by [] none = refl
empty_by (x ∷ xs) none = absurd (omega (arith, none))

pub false_by : (b : Bool) → not b ≡ true → b ≡ false
false_by true is = sym is
false_by false is = refl

none_passes : {X : Type 0} (p : X → Bool) (xs : List X) → All (λ x. p x ≡ false) xs → list_any p xs ≡ false
none_passes p [] all = refl
none_passes p (x ∷ xs) all = ap (λ b. b || list_any p xs) (all 0 x (omega arith)) ∙ none_passes p xs (λ k d h. all (suc k) d (omega arith))

first_tells : (n : ℕ) (x y : ℕ × ℕ) (ys : List (ℕ × ℕ)) → ArePlaces (y ∷ ys) → is_late n x y ≡ true → list_any (is_close n x) (y ∷ ys) ≡ is_close n x y
first_tells n x y ys ascend late = elim (cases_Bool (is_close n x y)) [
  | inl close ↦ ap (λ b. b || list_any (is_close n x) ys) close ∙ sym close
  | inr far ↦
      ap (λ b. b || list_any (is_close n x) ys) far
      ∙ none_passes (is_close n x) ys (λ k d h. none_later n x y _ late far (ascend 0 (suc k) d (omega arith) (omega arith)))
      ∙ sym far
]

-- among those from the first on that could be
pub close_within : (n : ℕ) (x : ℕ × ℕ) (ys rest : List (ℕ × ℕ)) → rest ≡ filter (λ y. not (is_before y (x.0, x.1 - n))) ys → list_any (is_close n x) ys ≡ list_any (is_close n x) rest
unfolding is_late
close_within n x ys rest is =
    any_alike (is_close n x) (λ y. is_late n x y && is_close n x y) (close_late n x) ys
    ∙ sym (any_filter (is_close n x) (is_late n x) ys)
    ∙ ap (list_any (is_close n x)) (sym is)

pub close_first : (n : ℕ) (x y : ℕ × ℕ) (ys rest later : List (ℕ × ℕ)) → ArePlaces rest → rest ≡ filter (λ p. not (is_before p (x.0, x.1 - n))) ys → rest ≡ y ∷ later → list_any (is_close n x) ys ≡ is_close n x y
unfolding is_late
close_first n x y ys rest later ascend is first =
    let late : All (λ p. is_late n x p ≡ true) (y ∷ later) = subst (All (λ (p : ℕ × ℕ). is_late n x p ≡ true)) (sym is ∙ first) (filter_passes (is_late n x) ys) in
    close_within n x ys rest is
    ∙ ap (list_any (is_close n x)) first
    ∙ first_tells n x y later (subst ArePlaces first ascend) (late 0 y (omega arith))

-- ---- NEAR

no_member : {X : Type 0} (xs : List X) → list_any (λ (x : X). true) xs ≡ false → xs ≡ []
no_member [] none = refl
no_member (x ∷ xs) none = absurd (true≢false none)

near_close : (n : ℕ) (p q : ℕ × ℕ) → ((same_field (at_place p) (at_place q) && (is_near n (at_place p) (at_place q) || is_near n (at_place q) (at_place p))) && true) ≡ true → is_close n p q ≡ true
near_close n p q near = grind (arith, nat_tests)

pub none_near : (n : ℕ) (xs ys : List (ℕ × ℕ)) → list_any (λ x. list_any (is_close n x) ys) xs ≡ false → near n (map at_place xs) (map at_place ys) ≡ []
none_near n xs ys far =
    let goes : Occ → Occ → Bool = λ x y. same_field x y && (is_near n x y || is_near n y x) in
    let made : list_any (λ (o : Occ). true) (near n (map at_place xs) (map at_place ys)) ≡ list_any (λ p. list_any (λ q. goes (at_place p) (at_place q) && true) ys) xs =
    any_pairs (λ o. true) goes hull (map at_place xs) (map at_place ys)
    ∙ any_map (λ x. list_any (λ y. goes x y && true) (map at_place ys)) at_place xs
    ∙ any_alike (λ p. list_any (λ y. goes (at_place p) y && true) (map at_place ys)) (λ p. list_any (λ q. goes (at_place p) (at_place q) && true) ys) (λ p. any_map (λ y. goes (at_place p) y && true) at_place ys) xs in
    no_member (near n (map at_place xs) (map at_place ys)) (elim (cases_Bool (list_any (λ (o : Occ). true) (near n (map at_place xs) (map at_place ys)))) [
      | inl some ↦ absurd (true≢false (sym (any_weaker (λ p. list_any (λ q. goes (at_place p) (at_place q) && true) ys) (λ p. list_any (is_close n p) ys) (λ p. any_weaker (λ q. goes (at_place p) (at_place q) && true) (is_close n p) (near_close n p) ys) xs (sym made ∙ some)) ∙ far))
      | inr none ↦ none
    ])
