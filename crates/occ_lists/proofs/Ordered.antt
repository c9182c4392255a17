-- Occurrences in order: by field, first and last position.
use Rattle.std.proofs.Common.{◌≡◌, Bool, true, List, [], ◌∷◌, Ordering, arith}
use Rattle.std.specs.Prelude.{◌&&◌, ◌==◌, IsTrue, IsPermutation}
use Rattle.std.specs.Cmp.{IsTotalOrder, IsEquivalence}
use Rattle.std.specs.List.{dedup}
use Rattle.std.specs.List.Sorted.{IsSorted, IsStrictlySortedBy}
use Rattle.std.specs.Ordering.{nat_cmp, ordering_then, eq_by_cmp}
use Rattle.std.specs.declared.cmp.Ordering.TheVariants.{Less}
use Rattle.std.proofs.lemmas.Bool.Decides.{nat_tests}
use Rattle.std.proofs.lemmas.Cmp.{nat_cmp_total, on_total, then_total, nat_eq_equiv, on_equiv, and_equiv}
use Rattle.std.proofs.lemmas.Bool.{and_parts, eqb-true}
use Rattle.std.proofs.lemmas.List.Elements.{All-from_recursion, All-weaker}
use Rattle.std.proofs.lemmas.List.Kept.{AllPairs-cons, IsStrictlySortedBy-dedup}
use Rattle.occ_lists.specs.declared.occ.Occ.{Occ}
use Rattle.occ_lists.specs.OccLists.{Ascend, SameMembers, precedes}
use Rattle.occ_lists.proofs.Members.{same_dedup, same_permutation, same_trans, same_sym}

abbrev pub by_place : Occ → Occ → Ordering
by_place x y = ordering_then (ordering_then (nat_cmp x.field y.field) (nat_cmp x.first y.first)) (nat_cmp x.last y.last)

by_place_total : IsTotalOrder by_place
by_place_total = then_total (then_total (on_total (λ (o : Occ). o.field) nat_cmp_total) (on_total (λ (o : Occ). o.first) nat_cmp_total)) (on_total (λ (o : Occ). o.last) nat_cmp_total)

abbrev pub is_same : Occ → Occ → Bool
is_same x y = (x.field == y.field) && ((x.first == y.first) && (x.last == y.last))

same_ties : (x y : Occ) → is_same x y ≡ eq_by_cmp by_place x y
same_ties x y = grind (arith, nat_tests)

precedes_from_less : (x y : Occ) → by_place x y ≡ Less → IsTrue (precedes x y)
precedes_from_less x y less = grind (arith, nat_tests)

ascend_from_sorted : (xs : List Occ) → IsStrictlySortedBy by_place xs → Ascend xs
unfolding IsStrictlySortedBy
ascend_from_sorted [] sorted = λ i j d before within. absurd (omega arith)
ascend_from_sorted (x ∷ xs) sorted =
    AllPairs-cons (λ o later. IsTrue (precedes o later)) x xs
    (All-weaker (λ y. by_place x y ≡ Less) (λ y. IsTrue (precedes x y)) (λ y less. precedes_from_less x y less) xs (All-from_recursion (λ y. by_place x y ≡ Less) xs sorted.0))
    (ascend_from_sorted xs sorted.1)

-- by their fields
pub occ_equal : (x y : Occ) → x.field ≡ y.field → x.first ≡ y.first → x.last ≡ y.last → x ≡ y
occ_equal x y fields firsts lasts = λ i. record { field = fields i; first = firsts i; last = lasts i }

is_same_equal : (x y : Occ) → is_same x y ≡ true → x ≡ y
is_same_equal x y same =
    let parts = and_parts (x.field == y.field) ((x.first == y.first) && (x.last == y.last)) same in
    let positions = and_parts (x.first == y.first) (x.last == y.last) parts.1 in
    occ_equal x y (eqb-true _ _ parts.0) (eqb-true _ _ positions.0) (eqb-true _ _ positions.1)

-- what a sort and `dedup` leave
pub ascend_deduped : (xs : List Occ) → IsSorted by_place xs → Ascend (dedup is_same xs)
ascend_deduped xs sorted = ascend_from_sorted (dedup is_same xs) (IsStrictlySortedBy-dedup by_place_total same_ties xs sorted)

is_same_equiv : IsEquivalence is_same
is_same_equiv = and_equiv (on_equiv (λ (o : Occ). o.field) nat_eq_equiv) (and_equiv (on_equiv (λ (o : Occ). o.first) nat_eq_equiv) (on_equiv (λ (o : Occ). o.last) nat_eq_equiv))

pub members_deduped : (old xs : List Occ) → IsPermutation old xs → SameMembers (dedup is_same xs) old
members_deduped old xs moved = same_trans (dedup is_same xs) xs old (same_dedup is_same is_same_equiv is_same_equal xs) (same_sym old xs (same_permutation old xs moved))
