-- Lists of which no two elements are alike: where they have the same elements, they are permutations of one another, and have one order.
use Rattle.std.proofs.Common.{◌≡◌, ◌≢◌, ◌∙◌, Bool, true, false, true≢false, List, [], ◌∷◌, All, AllPairs, get_or, ap, sym, subst, refl}
use Rattle.std.specs.Cmp.{IsStrictWeakOrder, IsTotalOrder}
use Rattle.std.specs.List.{AllByRecursion, Contains, IsDistinct}
use Rattle.std.specs.List.Sorted.{IsPermutation, IsSorted}
use Rattle.std.specs.Ordering.{is_lt, ordering_reverse}
use Rattle.std.specs.declared.cmp.Ordering.{Ordering}
use Rattle.std.specs.declared.cmp.Ordering.TheVariants.{Less, Equal, Greater}
use Rattle.std.proofs.lemmas.List.Elements.{All-cons, All-head, All-nil, All-tail}
use Rattle.std.proofs.lemmas.List.Kept.{AllPairs-cons}
use Rattle.std.proofs.lemmas.List.Sorted.{Contains-permutation, IsPermutation-sym, IsPermutation-trans, ranks_by}
use Rattle.std.proofs.lemmas.Map.Keys.{IsDistinct-IsPermutation}
use Rattle.row_select.proofs.Sorting.{one_list, ordered, rises_from_sorted, sorted_from_rises}
use Rattle.word_rows.proofs.Lists.{pairs_head, pairs_nil, pairs_tail}

-- no two are alike
abbrev pub AreApart : {X : Type 0} → (X → X → Bool) → List X → Type 0
AreApart alike xs = AllPairs (λ x later. alike x later ≡ false) xs

-- they have the same elements
pub record HaveSame {X : Type 0} (xs ys : List X) : Type 0 where
  pub into : (z : X) → Contains xs z → Contains ys z
  pub back : (z : X) → Contains ys z → Contains xs z

pub turned_round : {X : Type 0} (xs ys : List X) → HaveSame xs ys → HaveSame ys xs
turned_round xs ys same = record { into = same.back; back = same.into }

module _ {X : Type 0} (alike : X → X → Bool) where
  by_steps : (x : X) (xs : List X) → All (λ later. alike x later ≡ false) xs → AllByRecursion (λ later. alike x later ≡ false) xs
  by_steps x [] all = tt
  by_steps x (y ∷ ys) all = (All-head (λ later. alike x later ≡ false) y ys all, by_steps x ys (All-tail (λ later. alike x later ≡ false) y ys all))

  from_steps : (x : X) (xs : List X) → AllByRecursion (λ later. alike x later ≡ false) xs → All (λ later. alike x later ≡ false) xs
  from_steps x [] steps = All-nil (λ later. alike x later ≡ false)
  from_steps x (y ∷ ys) steps = All-cons (λ later. alike x later ≡ false) y ys steps.0 (from_steps x ys steps.1)

  distinct_of : (xs : List X) → AreApart alike xs → IsDistinct alike xs
  unfolding IsDistinct
  distinct_of [] apart = tt
  distinct_of (x ∷ xs) apart =
      (by_steps x xs (pairs_head (λ y later. alike y later ≡ false) x xs apart), distinct_of xs (pairs_tail (λ y later. alike y later ≡ false) x xs apart))

  apart_of : (xs : List X) → IsDistinct alike xs → AreApart alike xs
  unfolding IsDistinct
  apart_of [] distinct = pairs_nil (λ y later. alike y later ≡ false)
  apart_of (x ∷ xs) distinct = AllPairs-cons (λ y later. alike y later ≡ false) x xs (from_steps x xs distinct.0) (apart_of xs distinct.1)

  apart_moved : ((x y : X) → alike x y ≡ alike y x) → (xs ys : List X) → IsPermutation xs ys → AreApart alike xs → AreApart alike ys
  apart_moved flips xs ys moved apart = apart_of ys (IsDistinct-IsPermutation alike flips xs ys moved (distinct_of xs apart))

-- what doesn't come after and doesn't come before, ties
pub tied_by : (ordering back : Ordering) → back ≡ ordering_reverse ordering → is_lt ordering ≡ false → is_lt back ≡ false → ordering ≡ Equal
tied_by Less back turned not not_back = absurd (true≢false not)
tied_by Equal back turned not not_back = refl
tied_by Greater back turned not not_back = absurd (true≢false (sym (ap is_lt turned) ∙ not_back))

goes_first : (ordering back : Ordering) → back ≡ ordering_reverse ordering → is_lt back ≡ false → ordering ≢ Equal → is_lt ordering ≡ true
goes_first Less back turned not_back apart = refl
goes_first Equal back turned not_back apart = absurd (apart refl)
goes_first Greater back turned not_back apart = absurd (true≢false (sym (ap is_lt turned) ∙ not_back))

module _ {X : Type 0} (R : X → X → Ordering) (total : IsTotalOrder R) (alike : X → X → Bool) (flips : (x y : X) → alike x y ≡ alike y x) (ties : (x y : X) → R x y ≡ Equal → alike x y ≡ true) where
  abbrev before : X → X → Bool
  before x y = is_lt (R x y)

  ranks : IsStrictWeakOrder before
  ranks = ranks_by total (λ (x : X). x)

  -- in order each comes before all later ones
  climbs : (xs sorted : List X) → AreApart alike xs → IsPermutation xs sorted → IsSorted R sorted → AllPairs (λ x later. before x later ≡ true) sorted
  climbs xs sorted apart moved ascend i j d below low =
      let x = get_or sorted i d in
      let later = get_or sorted j d in
      goes_first (R x later) (R later x) (total.antisymm later x) (rises_from_sorted before ranks sorted ascend i j d below low)
      (λ is. true≢false (sym (ties x later is) ∙ apart_moved alike flips xs sorted moved apart i j d below low))

  pub one_sorted : (xs ys one two : List X) → AreApart alike xs → AreApart alike ys → HaveSame xs ys → IsPermutation xs one → IsPermutation ys two → IsSorted R one → IsSorted R two → one ≡ two
  one_sorted xs ys one two apart others_apart same moved other_moved ascend other_ascend =
      one_list before ranks one two (climbs xs one apart moved ascend) (climbs ys two others_apart other_moved other_ascend)
      (λ z there. Contains-permutation ys two z other_moved (same.into z (Contains-permutation one xs z (IsPermutation-sym xs one moved) there)))
      (λ z there. Contains-permutation xs one z moved (same.back z (Contains-permutation two ys z (IsPermutation-sym ys two other_moved) there)))

  pub permuted : (xs ys : List X) → AreApart alike xs → AreApart alike ys → HaveSame xs ys → IsPermutation xs ys
  permuted xs ys apart others_apart same =
      let one = ordered before ranks xs in
      let two = ordered before ranks ys in
      let is : one.0 ≡ two.0 =
      one_sorted xs ys one.0 two.0 apart others_apart same one.1 two.1 (sorted_from_rises before ranks one.0 one.2) (sorted_from_rises before ranks two.0 two.2) in
      IsPermutation-trans xs one.0 ys one.1 (subst (λ l. IsPermutation l ys) (sym is) (IsPermutation-sym ys two.0 two.1))
