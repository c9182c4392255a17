-- The same rows in two orders: their groups and their values are the same.
use Rattle.std.proofs.Common.{◌≡◌, ◌≢◌, ◌∙◌, zero, suc, ℤ, pos, ◌≤ℤ◌, Bool, true, false, not, List, [], ◌∷◌, All, AllPairs, map, get_or, ap, ap₂, sym, refl, arith, true≢false}
use Rattle.std.specs.List.{AllZip, Contains, filter}
use Rattle.std.specs.List.Sorted.{IsPermutation}
use Rattle.std.specs.Ordering.{eq_by_cmp, int_cmp, int_eq, is_eq, is_lt, nat_cmp, ordering_then}
use Rattle.std.specs.declared.cmp.Ordering.{Ordering}
use Rattle.std.specs.declared.cmp.Ordering.TheVariants.{Less, Equal, Greater}
use Rattle.std.proofs.lemmas.Bool.{false_from_ne_true}
use Rattle.std.proofs.lemmas.Bool.Decides.{Decides-int_eq}
use Rattle.std.proofs.lemmas.Cmp.{eq_by_cmp_equiv, int_cmp_total, int_eq_equiv, nat_cmp_total}
use Rattle.std.proofs.lemmas.List.Elements.{All-contains, All-head, All-nil, All-cons, All-tail, filter_passes}
use Rattle.std.proofs.lemmas.List.Kept.{AllPairs-cons, AllPairs-filter}
use Rattle.std.proofs.lemmas.List.Sorted.{Contains-permutation, IsPermutation-map, IsPermutation-sym, length_permutation}
use Rattle.std.proofs.lemmas.Map.Lookups.{exact_signed, exact_unsigned}
use Rattle.std.proofs.lemmas.Map.Views.{Contains-from_any, list_any-from_Contains, tells_apart}
use Rattle.doc_search.proofs.Members.{in_filter, to_filter}
use Rattle.row_select.specs.Columns.{column_value}
use Rattle.row_select.specs.Orders.{by_key, by_keys}
use Rattle.row_select.specs.declared.row.ColumnRef.{ColumnRef}
use Rattle.row_select.specs.declared.row.Row.{Row}
use Rattle.row_select.proofs.Ordered.{by_keys_total}
use Rattle.word_rows.proofs.Lists.{pairs_head, pairs_nil, pairs_tail}
use Rattle.group_facet.specs.Distinct.{first_seen}
use Rattle.group_facet.specs.Folds.{IsFolded, IsGreatest, IsLeast, column_values}
use Rattle.group_facet.specs.Groups.{IsFirst, IsGroup}
use Rattle.group_facet.specs.declared.fold.Fold.{Fold}
use Rattle.group_facet.specs.declared.fold.Fold.TheVariants.{Count, Distinct, Least, Greatest, Sum}
use Rattle.group_facet.specs.declared.grouping.Group.{Group}
use Rattle.group_facet.specs.declared.grouping.GroupRow.{GroupRow}
use Rattle.group_facet.proofs.FirstSeen.{seen_any}
use Rattle.table_search.proofs.IntSums.{total_moved}
use Rattle.table_search.proofs.OneList.{AreApart, HaveSame, permuted, tied_by}

-- ---- rows by their ids
abbrev pub RowsApart : List Row → Type 0
RowsApart rows = AllPairs (λ row later. row.id ≢ later.id) rows

abbrev pub same_row : Row → Row → Bool
same_row row other = eq_by_cmp nat_cmp row.id other.id

same_ids : (row other : Row) → same_row row other ≡ true → row.id ≡ other.id
same_ids row other is = tells_apart exact_unsigned row.id other.id is

by_ids : (rows : List Row) → RowsApart rows → AreApart same_row rows
by_ids rows apart i j d below low =
    false_from_ne_true (same_row (get_or rows i d) (get_or rows j d)) (λ is. apart i j d below low (same_ids (get_or rows i d) (get_or rows j d) is))

pub rows_permuted : (rows others : List Row) → RowsApart rows → RowsApart others → HaveSame rows others → IsPermutation rows others
rows_permuted rows others apart others_apart same =
    permuted (by_keys []) (by_keys_total []) same_row (λ row other. (eq_by_cmp_equiv nat_cmp_total).symm row.id other.id) (λ row other is. ap is_eq is)
    rows others (by_ids rows apart) (by_ids others others_apart) same

-- members with one id are one row
pub one_by_id : (rows : List Row) (a b : Row) → RowsApart rows → Contains rows a → Contains rows b → a.id ≡ b.id → a ≡ b
one_by_id [] a b apart here there same = absurd (omega (arith, here.1))
one_by_id (row ∷ rows) a b apart (zero, low, is) (zero, other_low, other_is) same = sym is ∙ other_is
one_by_id (row ∷ rows) a b apart (zero, low, is) (suc k, other_low, other_is) same =
    absurd (All-contains (λ (later : Row). row.id ≢ later.id) rows b (pairs_head (λ row later. row.id ≢ later.id) row rows apart) (k, omega (arith, other_low), other_is) (ap (λ (r : Row). r.id) is ∙ same))
one_by_id (row ∷ rows) a b apart (suc k, low, is) (zero, other_low, other_is) same =
    absurd (All-contains (λ (later : Row). row.id ≢ later.id) rows a (pairs_head (λ row later. row.id ≢ later.id) row rows apart) (k, omega (arith, low), is) (ap (λ (r : Row). r.id) other_is ∙ sym same))
one_by_id (row ∷ rows) a b apart (suc k, low, is) (suc n, other_low, other_is) same =
    one_by_id rows a b (pairs_tail (λ row later. row.id ≢ later.id) row rows apart) (k, omega (arith, low), is) (n, omega (arith, other_low), other_is) same

-- ---- parts of what passes a test
pub filter_same : {X : Type 0} (p : X → Bool) (xs ys : List X) → HaveSame xs ys → HaveSame (filter p xs) (filter p ys)
filter_same p xs ys same = record {
  into = λ z there. to_filter p ys z (in_filter p xs z there).1 (same.into z (in_filter p xs z there).0);
  back = λ z there. to_filter p xs z (in_filter p ys z there).1 (same.back z (in_filter p ys z there).0);
}

-- ---- different values
turned : (b : Bool) → not b ≡ true → b ≡ false
turned true is = absurd (true≢false (sym is))
turned false is = refl

all_turned : (x : ℤ) (xs : List ℤ) → All (λ y. not (int_eq x y) ≡ true) xs → All (λ y. int_eq x y ≡ false) xs
all_turned x [] all = All-nil (λ y. int_eq x y ≡ false)
all_turned x (y ∷ ys) all =
    All-cons (λ y. int_eq x y ≡ false) y ys (turned (int_eq x y) (All-head (λ y. not (int_eq x y) ≡ true) y ys all)) (all_turned x ys (All-tail (λ y. not (int_eq x y) ≡ true) y ys all))

pub seen_apart : (xs : List ℤ) → AreApart int_eq (first_seen xs)
seen_apart [] = pairs_nil (λ x later. int_eq x later ≡ false)
seen_apart (x ∷ xs) =
    let others = filter (λ later. not (int_eq x later)) (first_seen xs) in
    AllPairs-cons (λ x later. int_eq x later ≡ false) x others (all_turned x others (filter_passes (λ later. not (int_eq x later)) (first_seen xs)))
    (AllPairs-filter (λ x later. int_eq x later ≡ false) (λ later. not (int_eq x later)) (first_seen xs) (seen_apart xs))

is_one : (x y : ℤ) → int_eq x y ≡ true → x ≡ y
is_one x y is = (Decides-int_eq x y).0 is

to_seen : (xs : List ℤ) (z : ℤ) → Contains xs z → Contains (first_seen xs) z
to_seen xs z there = Contains-from_any is_one z (first_seen xs) (seen_any xs z ∙ list_any-from_Contains int_eq_equiv z xs there)

of_seen : (xs : List ℤ) (z : ℤ) → Contains (first_seen xs) z → Contains xs z
of_seen xs z there = Contains-from_any is_one z xs (sym (seen_any xs z) ∙ list_any-from_Contains int_eq_equiv z (first_seen xs) there)

pub seen_same : (xs ys : List ℤ) → HaveSame xs ys → HaveSame (first_seen xs) (first_seen ys)
seen_same xs ys same = record {
  into = λ z there. to_seen ys z (same.into z (of_seen xs z there));
  back = λ z there. to_seen xs z (same.back z (of_seen ys z there));
}

pub seen_permuted : (xs ys : List ℤ) → HaveSame xs ys → IsPermutation (first_seen xs) (first_seen ys)
seen_permuted xs ys same =
    permuted int_cmp int_cmp_total int_eq (λ x y. int_eq_equiv.symm x y) (λ x y is. (Decides-int_eq x y).1 (tells_apart exact_signed x y (ap is_eq is)))
    (first_seen xs) (first_seen ys) (seen_apart xs) (seen_apart ys) (seen_same xs ys same)

moved_same : {X : Type 0} (xs ys : List X) → IsPermutation xs ys → HaveSame xs ys
moved_same xs ys moved = record { into = λ z there. Contains-permutation xs ys z moved there; back = λ z there. Contains-permutation ys xs z (IsPermutation-sym xs ys moved) there }

pub values_same : (f : Row → ℤ) (rows others : List Row) → IsPermutation rows others → HaveSame (map f rows) (map f others)
values_same f rows others moved = moved_same (map f rows) (map f others) (IsPermutation-map f rows others moved)

-- ---- aggregates
at_most_both : (a b : ℤ) → a ≤ℤ b → b ≤ℤ a → a ≡ b
at_most_both a b one two = grind (arith, one, two)

one_least : (xs ys : List ℤ) (v w : ℤ) → HaveSame xs ys → IsLeast xs v → IsLeast ys w → v ≡ w
one_least xs ys v w same one two =
    at_most_both v w (All-contains (λ value. v ≤ℤ value) xs w one.none_less (same.back w two.among)) (All-contains (λ value. w ≤ℤ value) ys v two.none_less (same.into v one.among))

one_greatest : (xs ys : List ℤ) (v w : ℤ) → HaveSame xs ys → IsGreatest xs v → IsGreatest ys w → v ≡ w
one_greatest xs ys v w same one two =
    at_most_both v w (All-contains (λ value. value ≤ℤ w) ys v two.none_greater (same.into v one.among)) (All-contains (λ value. value ≤ℤ v) xs w one.none_greater (same.back w two.among))

one_fold : (rows others : List Row) → IsPermutation rows others → (fold : Fold) (v w : ℤ) → IsFolded rows fold v → IsFolded others fold w → v ≡ w
one_fold rows others moved Count v w one two = one ∙ ap pos (sym (length_permutation rows others moved)) ∙ sym two
one_fold rows others moved (Distinct column) v w one two =
    one ∙ ap pos (sym (length_permutation (first_seen (column_values column rows)) (first_seen (column_values column others)) (seen_permuted (column_values column rows) (column_values column others) (values_same (column_value column) rows others moved)))) ∙ sym two
one_fold rows others moved (Least column) v w one two = one_least (column_values column rows) (column_values column others) v w (values_same (column_value column) rows others moved) one two
one_fold rows others moved (Greatest column) v w one two = one_greatest (column_values column rows) (column_values column others) v w (values_same (column_value column) rows others moved) one two
one_fold rows others moved (Sum column) v w one two = one ∙ total_moved (column_values column rows) (column_values column others) (IsPermutation-map (column_value column) rows others moved) ∙ sym two

one_folds : (rows others : List Row) → IsPermutation rows others → (folds : List Fold) (vs ws : List ℤ) → AllZip (IsFolded rows) folds vs → AllZip (IsFolded others) folds ws → vs ≡ ws
one_folds rows others moved [] [] [] one two = refl
one_folds rows others moved [] [] (w ∷ ws) one two = absurd two
one_folds rows others moved [] (v ∷ vs) ws one two = absurd one
one_folds rows others moved (fold ∷ folds) [] ws one two = absurd one
one_folds rows others moved (fold ∷ folds) (v ∷ vs) [] one two = absurd two
one_folds rows others moved (fold ∷ folds) (v ∷ vs) (w ∷ ws) one two = ap₂ ◌∷◌ (one_fold rows others moved fold v w one.0 two.0) (one_folds rows others moved folds vs ws one.1 two.1)

-- ---- the row of a group
tied_behind : (first second : Ordering) → ordering_then first second ≡ Equal → second ≡ Equal
tied_behind Less second is = absurd (true≢false (sym (ap is_eq is)))
tied_behind Equal second is = is
tied_behind Greater second is = absurd (true≢false (sym (ap is_eq is)))

ids_tie : (keys : List (ColumnRef × Bool)) (row other : Row) → by_keys keys row other ≡ Equal → row.id ≡ other.id
ids_tie [] row other is = same_ids row other (ap is_eq is)
ids_tie (key ∷ keys) row other is = ids_tie keys row other (tied_behind (by_key key row other) (by_keys keys row other) is)

one_first : (keys : List (ColumnRef × Bool)) (rows others : List Row) (a b : Row) → RowsApart rows → HaveSame rows others → IsFirst keys rows a → IsFirst keys others b → a ≡ b
one_first keys rows others a b apart same one two =
    one_by_id rows a b apart one.among (same.back b two.among)
    (ids_tie keys a b (tied_by (by_keys keys a b) (by_keys keys b a) ((by_keys_total keys).antisymm b a)
    (All-contains (λ row. is_lt (by_keys keys row b) ≡ false) others a two.none_before (same.into a one.among))
    (All-contains (λ row. is_lt (by_keys keys row a) ≡ false) rows b one.none_before (same.back b two.among))))

pub one_group : (group : Group) (key : ℤ) (rows others : List Row) (shown other : GroupRow) → RowsApart rows → RowsApart others → HaveSame rows others → IsGroup group key rows shown → IsGroup group key others other → shown ≡ other
one_group group key rows others shown other apart others_apart same one two =
    let keys : shown.key ≡ other.key = one.key_is ∙ sym two.key_is in
    let best : shown.best ≡ other.best = one_first group.within.keys rows others shown.best other.best apart same one.best two.best in
    let folded : shown.folded ≡ other.folded = one_folds rows others (rows_permuted rows others apart others_apart same) group.folds shown.folded other.folded one.folded two.folded in
    λ i. record { key = keys i; best = best i; folded = folded i }
