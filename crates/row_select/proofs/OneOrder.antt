-- Rows of which no two have one id are in order in one way only.
use Rattle.std.proofs.Common.{◌≡◌, ◌≢◌, ◌↔◌, ℕ, ◌<◌, Bool, true, false, List, [], ◌∷◌, AllPairs, length, map, get_or, refl, sym, ◌∙◌, ap, subst, arith}
use mathlib.Core.Bool.{true≢false}
use Rattle.std.specs.Bool.{Decides}
use Rattle.std.specs.List.{Contains, IsDistinct}
use Rattle.std.specs.List.Sorted.{IsPermutation}
use Rattle.std.specs.Ordering.{eq_by_cmp, nat_cmp, is_eq, is_lt, ordering_then, ordering_reverse}
use Rattle.std.specs.declared.cmp.Ordering.{Ordering}
use Rattle.std.specs.declared.cmp.Ordering.TheVariants.{Less, Equal, Greater}
use Rattle.std.proofs.Math.ListN.{get_or-map}
use Rattle.std.proofs.lemmas.Cmp.{eq_by_cmp_equiv, nat_cmp_total}
use Rattle.std.proofs.lemmas.List.{length-map}
use Rattle.std.proofs.lemmas.List.Sorted.{Contains-permutation, IsPermutation-map, IsPermutation-sym}
use Rattle.std.proofs.lemmas.Map.Keys.{IsDistinct-IsPermutation}
use Rattle.std.proofs.lemmas.Map.Lookups.{exact_unsigned}
use Rattle.std.proofs.lemmas.Map.Made.{AllPairs-from_IsDistinct, IsDistinct-from_AllPairs}
use Rattle.std.proofs.lemmas.Map.Views.{tells_apart}
use Rattle.row_select.specs.Orders.{AreInOrder, by_key, by_keys}
use Rattle.row_select.specs.declared.order.Order.{Order}
use Rattle.row_select.specs.declared.row.ColumnRef.{ColumnRef}
use Rattle.row_select.specs.declared.row.Row.{Row}
use Rattle.row_select.proofs.Ordered.{by_keys_total}
use Rattle.row_select.proofs.Selected.{precedes, precedes_ranks}
use Rattle.row_select.proofs.Sorting.{one_list, rises_from_sorted}

abbrev AreApart : List Row → Type 0
AreApart rows = AllPairs (λ row later. row.id ≢ later.id) rows

abbrev ids : List Row → List ℕ
ids rows = map (λ (row : Row). row.id) rows

decides : (a b : ℕ) → Decides (eq_by_cmp nat_cmp a b) (a ≡ b)
decides a b = (tells_apart exact_unsigned a b, λ e. subst (λ x. eq_by_cmp nat_cmp a x ≡ true) e ((eq_by_cmp_equiv nat_cmp_total).refl a))

-- a row by its id alone, as what an index past the end gives
abbrev blank : ℕ → Row
blank id = record { id = id; weight = 0; values = [] }

to_distinct : (rows : List Row) → AreApart rows → IsDistinct (eq_by_cmp nat_cmp) (ids rows)
to_distinct rows apart =
    IsDistinct-from_AllPairs decides (ids rows) (λ i j d below low.
    let inside : j < length rows = omega (arith, length-map rows (λ (row : Row). row.id), low) in
    rw (get_or-map (λ (row : Row). row.id) rows i (blank d), get_or-map (λ (row : Row). row.id) rows j (blank d)) (apart i j (blank d) below inside))

from_distinct : (rows : List Row) → IsDistinct (eq_by_cmp nat_cmp) (ids rows) → AreApart rows
from_distinct rows distinct i j d below low =
    let inside : j < length (ids rows) = omega (arith, length-map rows (λ (row : Row). row.id), low) in
    rw (← get_or-map (λ (row : Row). row.id) rows i d, ← get_or-map (λ (row : Row). row.id) rows j d) (AllPairs-from_IsDistinct decides (ids rows) distinct i j d.id below inside)

-- in another order they stay apart
apart_permutation : (xs ys : List Row) → IsPermutation xs ys → AreApart xs → AreApart ys
apart_permutation xs ys moved apart =
    from_distinct ys (IsDistinct-IsPermutation (eq_by_cmp nat_cmp) (eq_by_cmp_equiv nat_cmp_total).symm (ids xs) (ids ys) (IsPermutation-map (λ (row : Row). row.id) xs ys moved) (to_distinct xs apart))

tied : (first second : Ordering) → ordering_then first second ≡ Equal → second ≡ Equal
tied Less second is = absurd (true≢false (sym (ap is_eq is)))
tied Equal second is = is
tied Greater second is = absurd (true≢false (sym (ap is_eq is)))

nat_tied : (a b : ℕ) → nat_cmp a b ≡ Equal → a ≡ b
nat_tied a b is = tells_apart exact_unsigned a b (ap is_eq is)

-- rows that tie by all keys and by id have one id
same_id : (keys : List (ColumnRef × Bool)) (row other : Row) → by_keys keys row other ≡ Equal → row.id ≡ other.id
same_id [] row other is = nat_tied row.id other.id is
same_id (key ∷ keys) row other is = same_id keys row other (tied (by_key key row other) (by_keys keys row other) is)

comes_first : (ordering back : Ordering) → back ≡ ordering_reverse ordering → is_lt back ≡ false → ordering ≢ Equal → is_lt ordering ≡ true
comes_first Less back turned not_back apart = refl
comes_first Equal back turned not_back apart = absurd (apart refl)
comes_first Greater back turned not_back apart = sym not_back ∙ ap is_lt turned

before : (keys : List (ColumnRef × Bool)) (row later : Row) → is_lt (by_keys keys later row) ≡ false → row.id ≢ later.id → is_lt (by_keys keys row later) ≡ true
before keys row later not_back apart =
    comes_first (by_keys keys row later) (by_keys keys later row) ((by_keys_total keys).antisymm later row) not_back (λ is. apart (same_id keys row later is))

-- in order each comes before all later ones
climbs : (rows sorted : List Row) (order : Order) → AreApart rows → AreInOrder order rows sorted → AllPairs (λ row later. is_lt (by_keys order.keys row later) ≡ true) sorted
climbs rows sorted order apart its i j d below low =
    before order.keys (get_or sorted i d) (get_or sorted j d)
    (rises_from_sorted (precedes order) (precedes_ranks order) sorted its.ascend i j d below low)
    (apart_permutation rows sorted its.same apart i j d below low)

-- the same rows, listed in two orders
pub one_order : (rows others xs ys : List Row) (order : Order) → AreApart rows → AreApart others → ((row : Row) → Contains rows row ↔ Contains others row) → AreInOrder order rows xs → AreInOrder order others ys → xs ≡ ys
one_order rows others xs ys order apart others_apart same one other =
    one_list (precedes order) (precedes_ranks order) xs ys (climbs rows xs order apart one) (climbs others ys order others_apart other)
    (λ row there. Contains-permutation others ys row other.same ((same row).0 (Contains-permutation xs rows row (IsPermutation-sym rows xs one.same) there)))
    (λ row there. Contains-permutation rows xs row one.same ((same row).1 (Contains-permutation ys others row (IsPermutation-sym others ys other.same) there)))
