-- Hits in order: by field, position, query position and word.
use Rattle.std.proofs.Common.{◌≡◌, Bool, true, List, [], ◌∷◌, Ordering, arith}
use Rattle.std.specs.Prelude.{◌&&◌, ◌==◌, IsTrue, IsPermutation, AllPairs}
use Rattle.std.specs.Cmp.{IsTotalOrder, IsEquivalence}
use Rattle.std.specs.List.{dedup}
use Rattle.std.specs.List.Sorted.{IsSorted, IsStrictlySortedBy}
use Rattle.std.specs.Ordering.{nat_cmp, ordering_then, eq_by_cmp}
use Rattle.std.specs.declared.cmp.Ordering.TheVariants.{Less}
use Rattle.std.proofs.lemmas.Bool.Decides.{nat_tests}
use Rattle.std.proofs.lemmas.Cmp.{nat_cmp_total, on_total, then_total, nat_eq_equiv, on_equiv, and_equiv}
use Rattle.std.proofs.lemmas.Bool.{and_parts, eqb-true}
use Rattle.std.proofs.lemmas.List.Elements.{All-from_recursion, All-weaker}
use Rattle.std.proofs.lemmas.List.Kept.{AllPairs-cons, IsStrictlySortedBy-dedup}
use Rattle.doc_types.specs.declared.hits.Hit.{Hit}
use Rattle.occ_lists.specs.OccLists.{SameMembers}
use Rattle.occ_lists.proofs.Members.{same_dedup, same_permutation, same_trans, same_sym}
use Rattle.op_eval.specs.Hits.{comes_before}

abbrev pub by_place : Hit → Hit → Ordering
by_place x y = ordering_then (ordering_then (ordering_then (nat_cmp x.field y.field) (nat_cmp x.position y.position)) (nat_cmp x.query y.query)) (nat_cmp x.word y.word)

by_place_total : IsTotalOrder by_place
by_place_total = then_total (then_total (then_total (on_total (λ (h : Hit). h.field) nat_cmp_total) (on_total (λ (h : Hit). h.position) nat_cmp_total)) (on_total (λ (h : Hit). h.query) nat_cmp_total)) (on_total (λ (h : Hit). h.word) nat_cmp_total)

abbrev pub is_same : Hit → Hit → Bool
is_same x y = (x.query == y.query) && ((x.word == y.word) && ((x.field == y.field) && (x.position == y.position)))

same_ties : (x y : Hit) → is_same x y ≡ eq_by_cmp by_place x y
same_ties x y = grind (arith, nat_tests)

before_from_less : (x y : Hit) → by_place x y ≡ Less → IsTrue (comes_before x y)
before_from_less x y less = grind (arith, nat_tests)

ascend_from_sorted : (xs : List Hit) → IsStrictlySortedBy by_place xs → AllPairs (λ hit later. IsTrue (comes_before hit later)) xs
unfolding IsStrictlySortedBy
ascend_from_sorted [] sorted = λ i j d before within. absurd (omega arith)
ascend_from_sorted (x ∷ xs) sorted =
    AllPairs-cons (λ hit later. IsTrue (comes_before hit later)) x xs
    (All-weaker (λ y. by_place x y ≡ Less) (λ y. IsTrue (comes_before x y)) (λ y less. before_from_less x y less) xs (All-from_recursion (λ y. by_place x y ≡ Less) xs sorted.0))
    (ascend_from_sorted xs sorted.1)

-- by their fields
hit_equal : (x y : Hit) → x.query ≡ y.query → x.word ≡ y.word → x.field ≡ y.field → x.position ≡ y.position → x ≡ y
hit_equal x y queries words fields positions = λ i. record { query = queries i; word = words i; field = fields i; position = positions i }

pub is_same_equal : (x y : Hit) → is_same x y ≡ true → x ≡ y
is_same_equal x y same =
    let parts = and_parts (x.query == y.query) ((x.word == y.word) && ((x.field == y.field) && (x.position == y.position))) same in
    let later = and_parts (x.word == y.word) ((x.field == y.field) && (x.position == y.position)) parts.1 in
    let places = and_parts (x.field == y.field) (x.position == y.position) later.1 in
    hit_equal x y (eqb-true _ _ parts.0) (eqb-true _ _ later.0) (eqb-true _ _ places.0) (eqb-true _ _ places.1)

-- what a sort and `dedup` leave
pub ascend_deduped : (xs : List Hit) → IsSorted by_place xs → AllPairs (λ hit later. IsTrue (comes_before hit later)) (dedup is_same xs)
ascend_deduped xs sorted = ascend_from_sorted (dedup is_same xs) (IsStrictlySortedBy-dedup by_place_total same_ties xs sorted)

pub is_same_equiv : IsEquivalence is_same
is_same_equiv = and_equiv (on_equiv (λ (h : Hit). h.query) nat_eq_equiv) (and_equiv (on_equiv (λ (h : Hit). h.word) nat_eq_equiv) (and_equiv (on_equiv (λ (h : Hit). h.field) nat_eq_equiv) (on_equiv (λ (h : Hit). h.position) nat_eq_equiv)))

pub members_deduped : (old xs : List Hit) → IsPermutation old xs → SameMembers (dedup is_same xs) old
members_deduped old xs moved = same_trans (dedup is_same xs) xs old (same_dedup is_same is_same_equiv is_same_equal xs) (same_sym old xs (same_permutation old xs moved))
