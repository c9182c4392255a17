-- Places that were put in order, each once.
use Rattle.std.proofs.Common.{◌≡◌, ℕ, Bool, true, ◌&&◌, ◌==◌, List, [], ◌∷◌, Ordering, IsTrue, arith}
use Rattle.std.specs.Prelude.{IsPermutation}
use Rattle.std.specs.Cmp.{IsTotalOrder, IsEquivalence}
use Rattle.std.specs.List.{dedup}
use Rattle.std.specs.List.Sorted.{IsSorted, IsStrictlySortedBy}
use Rattle.std.specs.Ordering.{nat_cmp, ordering_then, eq_by_cmp}
use Rattle.std.specs.declared.cmp.Ordering.TheVariants.{Less}
use Rattle.std.proofs.lemmas.Bool.Decides.{nat_tests}
use Rattle.std.proofs.lemmas.Cmp.{nat_cmp_total, on_total, then_total, nat_eq_equiv, on_equiv, and_equiv}
use Rattle.std.proofs.lemmas.Bool.{and_parts, eqb-true}
use Rattle.std.proofs.lemmas.List.Elements.{All-from_recursion, All-weaker}
use Rattle.std.proofs.lemmas.List.Kept.{AllPairs-cons, IsStrictlySortedBy-dedup}
use Rattle.occ_lists.specs.OccLists.{SameMembers}
use Rattle.occ_lists.specs.Places.{ArePlaces, is_before}
use Rattle.occ_lists.proofs.Members.{same_dedup, same_permutation, same_trans, same_sym}

abbrev pub by_place : ℕ × ℕ → ℕ × ℕ → Ordering
by_place x y = ordering_then (nat_cmp x.0 y.0) (nat_cmp x.1 y.1)

by_place_total : IsTotalOrder by_place
by_place_total = then_total (on_total (λ (p : ℕ × ℕ). p.0) nat_cmp_total) (on_total (λ (p : ℕ × ℕ). p.1) nat_cmp_total)

abbrev pub is_same : ℕ × ℕ → ℕ × ℕ → Bool
is_same x y = (x.0 == y.0) && (x.1 == y.1)

same_ties : (x y : ℕ × ℕ) → is_same x y ≡ eq_by_cmp by_place x y
same_ties x y = grind (arith, nat_tests)

before_from_less : (x y : ℕ × ℕ) → by_place x y ≡ Less → IsTrue (is_before x y)
before_from_less x y less = grind (arith, nat_tests)

ascend_from_sorted : (xs : List (ℕ × ℕ)) → IsStrictlySortedBy by_place xs → ArePlaces xs
unfolding IsStrictlySortedBy
ascend_from_sorted [] sorted = λ i j d before within. absurd (omega arith)
ascend_from_sorted (x ∷ xs) sorted =
    AllPairs-cons (λ y later. IsTrue (is_before y later)) x xs
    (All-weaker (λ y. by_place x y ≡ Less) (λ y. IsTrue (is_before x y)) (λ y less. before_from_less x y less) xs (All-from_recursion (λ y. by_place x y ≡ Less) xs sorted.0))
    (ascend_from_sorted xs sorted.1)

-- what a sort and `dedup` leave
pub ascend_deduped : (xs : List (ℕ × ℕ)) → IsSorted by_place xs → ArePlaces (dedup is_same xs)
ascend_deduped xs sorted = ascend_from_sorted (dedup is_same xs) (IsStrictlySortedBy-dedup by_place_total same_ties xs sorted)

is_same_equal : (x y : ℕ × ℕ) → is_same x y ≡ true → x ≡ y
is_same_equal x y same =
    let parts = and_parts (x.0 == y.0) (x.1 == y.1) same in
    let fields : x.0 ≡ y.0 = eqb-true x.0 y.0 parts.0 in
    let positions : x.1 ≡ y.1 = eqb-true x.1 y.1 parts.1 in
    λ i. (fields i, positions i)

is_same_equiv : IsEquivalence is_same
is_same_equiv = and_equiv (on_equiv (λ (p : ℕ × ℕ). p.0) nat_eq_equiv) (on_equiv (λ (p : ℕ × ℕ). p.1) nat_eq_equiv)

pub members_deduped : (old xs : List (ℕ × ℕ)) → IsPermutation old xs → SameMembers (dedup is_same xs) old
members_deduped old xs moved = same_trans (dedup is_same xs) xs old (same_dedup is_same is_same_equiv is_same_equal xs) (same_sym old xs (same_permutation old xs moved))
