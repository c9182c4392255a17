-- Lists in which no element comes before an earlier one: that each list has such an order, and only one where no two elements tie.
use Rattle.std.proofs.Common.{◌≡◌, zero, suc, ◌+◌, ◌⊎◌, Bool, true, false, List, [], ◌∷◌, ◌++◌, All, AllPairs, refl, sym, ◌∙◌, ap, ap₂, arith, inl, inr}
use mathlib.Core.Bool.{true≢false}
use Rattle.std.specs.Cmp.{IsStrictWeakOrder}
use Rattle.std.specs.List.{Contains}
use Rattle.std.specs.List.Sorted.{IsSortedBy, IsPermutation}
use Rattle.std.proofs.lemmas.List.Elements.{All-nil, All-cons, All-head, All-tail, All-append, All-weaker, All-contains}
use Rattle.std.proofs.lemmas.List.Kept.{AllPairs-cons}
use Rattle.std.proofs.lemmas.List.Sorted.{All-permutation, IsPermutation-refl, IsPermutation-cons, IsPermutation-middle, IsPermutation-trans, sorted_far}

pub pairs_head : {X : Type 0} (R : X → X → Type 0) (x : X) (xs : List X) → AllPairs R (x ∷ xs) → All (R x) xs
pairs_head R x xs pairs k d low = pairs 0 (suc k) d (omega arith) (omega (arith, low))

pub pairs_tail : {X : Type 0} (R : X → X → Type 0) (x : X) (xs : List X) → AllPairs R (x ∷ xs) → AllPairs R xs
pairs_tail R x xs pairs i j d below low = pairs (suc i) (suc j) d (omega (arith, below)) (omega (arith, low))

pairs_nil : {X : Type 0} (R : X → X → Type 0) → AllPairs R []
pairs_nil R i j d below low = absurd (omega (arith, low))

-- two lists of pairs, each element of the first before each of the second
pub pairs_append : {X : Type 0} (R : X → X → Type 0) (xs ys : List X) → AllPairs R xs → AllPairs R ys → All (λ x. All (R x) ys) xs → AllPairs R (xs ++ ys)
pairs_append R [] ys first second across = second
pairs_append R (x ∷ xs) ys first second across =
    AllPairs-cons R x (xs ++ ys) (All-append (R x) xs ys (pairs_head R x xs first) (All-head (λ z. All (R z) ys) x xs across))
    (pairs_append R xs ys (pairs_tail R x xs first) second (All-tail (λ z. All (R z) ys) x xs across))

module _ {X : Type 0} (lt : X → X → Bool) (order : IsStrictWeakOrder lt) where
  -- no element comes before an earlier one
  abbrev pub Rises : List X → Type 0
  Rises xs = AllPairs (λ x later. lt later x ≡ false) xs

  pub rises_from_sorted : (xs : List X) → IsSortedBy lt xs → Rises xs
  rises_from_sorted xs sorted i j d below low = sorted_far lt order xs sorted i j d (omega (arith, below)) low

  pub sorted_from_rises : (xs : List X) → Rises xs → IsSortedBy lt xs
  sorted_from_rises xs rises k d from low = rises k (k + 1) d (omega arith) low

  -- a list with one element more, put at its place
  abbrev Placed : X → List X → Type 0
  Placed x ys = (zs : List X) × IsPermutation (x ∷ ys) zs × Rises zs

  place_after : (x y : X) (ys : List X) (before : Bool) → lt x y ≡ before → Rises (y ∷ ys) → Placed x ys → Placed x (y ∷ ys)
  place_after x y ys true is rises placed = (
    x ∷ y ∷ ys,
    IsPermutation-refl (x ∷ y ∷ ys),
    AllPairs-cons (λ z later. lt later z ≡ false) x (y ∷ ys)
        (All-cons (λ z. lt z x ≡ false) y ys (order.one_way x y is)
        (All-weaker (λ z. lt z y ≡ false) (λ z. lt z x ≡ false) (λ z h. order.chain z y x h (order.one_way x y is)) ys (pairs_head (λ z later. lt later z ≡ false) y ys rises))) rises,
  )
  place_after x y ys false is rises placed = (
    y ∷ placed.0,
    IsPermutation-trans (x ∷ y ∷ ys) (y ∷ x ∷ ys) (y ∷ placed.0) (IsPermutation-middle (x ∷ []) y ys) (IsPermutation-cons y (x ∷ ys) placed.0 placed.1),
    AllPairs-cons (λ z later. lt later z ≡ false) y placed.0
        (All-permutation (λ z. lt z y ≡ false) (x ∷ ys) placed.0 placed.1 (All-cons (λ z. lt z y ≡ false) x ys is (pairs_head (λ z later. lt later z ≡ false) y ys rises)))
        placed.2,
  )

  place : (x : X) (ys : List X) → Rises ys → Placed x ys
  place x [] rises = (x ∷ [], IsPermutation-refl (x ∷ []), AllPairs-cons (λ z later. lt later z ≡ false) x [] (All-nil (λ z. lt z x ≡ false)) rises)
  place x (y ∷ ys) rises = place_after x y ys (lt x y) refl rises (place x ys (pairs_tail (λ z later. lt later z ≡ false) y ys rises))

  -- each list has an order
  pub ordered : (xs : List X) → (ys : List X) × IsPermutation xs ys × Rises ys
  ordered [] = ([], IsPermutation-refl [], pairs_nil (λ x later. lt later x ≡ false))
  ordered (x ∷ xs) =
      let rest = ordered xs in
      let placed = place x rest.0 rest.2 in
      (placed.0, IsPermutation-trans (x ∷ xs) (x ∷ rest.0) placed.0 (IsPermutation-cons x xs rest.0 rest.1) placed.1, placed.2)

  not_both : (x y : X) → lt x y ≡ true → lt y x ≡ true → ⊥
  not_both x y first second = true≢false (sym second ∙ order.one_way x y first)

  in_cons : (y : X) (ys : List X) (x : X) → Contains (y ∷ ys) x → (y ≡ x) ⊎ Contains ys x
  in_cons y ys x (zero, low, is) = inl is
  in_cons y ys x (suc k, low, is) = inr (k, omega (arith, low), is)

  in_tail : (y : X) (ys : List X) (x : X) → Contains ys x → Contains (y ∷ ys) x
  in_tail y ys x (k, low, is) = (suc k, omega (arith, low), is)

  -- each element comes before all later ones
  abbrev pub Climbs : List X → Type 0
  Climbs xs = AllPairs (λ x later. lt x later ≡ true) xs

  first_of : (x : X) (xs : List X) (z : X) → Climbs (x ∷ xs) → Contains xs z → lt x z ≡ true
  first_of x xs z climbs there = All-contains (λ later. lt x later ≡ true) xs z (pairs_head (λ y later. lt y later ≡ true) x xs climbs) there

  same_first : (x : X) (xs : List X) (y : X) (ys : List X) → Climbs (x ∷ xs) → Climbs (y ∷ ys) → (y ≡ x) ⊎ Contains ys x → (x ≡ y) ⊎ Contains xs y → x ≡ y
  same_first x xs y ys one other (inl is) back = sym is
  same_first x xs y ys one other (inr there) (inl is) = is
  same_first x xs y ys one other (inr there) (inr here) = absurd (not_both x y (first_of x xs y one here) (first_of y ys x other there))

  later_in : (x : X) (xs : List X) (y : X) (ys : List X) (z : X) → Climbs (x ∷ xs) → x ≡ y → Contains xs z → (y ≡ z) ⊎ Contains ys z → Contains ys z
  later_in x xs y ys z climbs heads there (inr here) = here
  later_in x xs y ys z climbs heads there (inl is) =
      let before : lt x z ≡ true = first_of x xs z climbs there in
      let same : lt x x ≡ true = ap (lt x) (heads ∙ is) ∙ before in
      absurd (not_both x x same same)

  -- two lists in which each element comes before all later ones are one list where they have the same elements
  pub one_list : (xs ys : List X) → Climbs xs → Climbs ys → ((z : X) → Contains xs z → Contains ys z) → ((z : X) → Contains ys z → Contains xs z) → xs ≡ ys
  one_list [] [] one other into back = refl
  one_list [] (y ∷ ys) one other into back = absurd (omega (arith, (back y (0, omega arith, refl)).1))
  one_list (x ∷ xs) [] one other into back = absurd (omega (arith, (into x (0, omega arith, refl)).1))
  one_list (x ∷ xs) (y ∷ ys) one other into back =
      let heads : x ≡ y = same_first x xs y ys one other (in_cons y ys x (into x (0, omega arith, refl))) (in_cons x xs y (back y (0, omega arith, refl))) in
      ap₂ ◌∷◌ heads (one_list xs ys (pairs_tail (λ z later. lt z later ≡ true) x xs one) (pairs_tail (λ z later. lt z later ≡ true) y ys other)
      (λ z there. later_in x xs y ys z one heads there (in_cons y ys z (into z (in_tail x xs z there))))
      (λ z there. later_in y ys x xs z other (sym heads) there (in_cons x xs z (back z (in_tail y ys z there)))))
