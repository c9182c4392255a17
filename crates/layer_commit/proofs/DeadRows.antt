-- Lists of dead rows: ascending numbers, of which each list is told by its members.
use Rattle.std.proofs.Common.{◌≡◌, ◌≢◌, ℕ, zero, suc, ◌+◌, ◌<◌, ◌≤◌, List, [], ◌∷◌, ◌++◌, Bool, true, false, cond, ◌==◌, ◌||◌, ◌&&◌, not, Option, Some, None, Result, Ok, Err, is_some, map, length, take, drop, get_or, refl, sym, ap, ◌∙◌, subst, arith, inl, inr, All, AllPairs, slice_get, append_assoc}
use Rattle.std.specs.Prelude.{ltb, nat_lt}
use Rattle.std.specs.List.{filter, filter_map, cons_option, list_any, position, position_from, prefix_len, enumerate_from}
use Rattle.std.specs.List.Sorted.{IsBinarySearchResult, IsPartitionPoint, IsPartitionedBy, IsSearchInRange}
use Rattle.std.specs.Option.{option_and_then, option_map_or}
use Rattle.std.specs.Ordering.{is_eq, nat_cmp}
use Rattle.std.specs.Result.{is_ok, result_ok}
use Rattle.std.specs.declared.cmp.Ordering.TheVariants.{Less}
use Rattle.std.proofs.lemmas.Bool.{cases_lt, lt-ltb, ltb-false, ltb-true}
use Rattle.std.proofs.lemmas.Bool.Decides.{nat_tests}
use Rattle.std.proofs.lemmas.Cmp.{nat_cmp_total}
use Rattle.std.proofs.lemmas.Iterator.Adapters.{position_from-zero}
use Rattle.std.proofs.Math.ListN.{drop_of_length-le, get_or-map}
use Rattle.std.proofs.lemmas.List.{drop_more, length-map, same_lists, take-append-drop, take_more}
use Rattle.std.proofs.lemmas.List.Elements.{All-head, All-tail, All-append, All-drop, All-take, All-cons, filter_map-append}
use Rattle.std.proofs.lemmas.List.Folds.{list_any-append, list_any_at, list_any_none}
use Rattle.std.proofs.lemmas.List.FromFn.{get_or-enumerate_from, length-enumerate_from}
use Rattle.std.proofs.lemmas.List.Kept.{AllPairs-cons}
use Rattle.std.proofs.lemmas.List.Quantifiers.{position-Some}
use Rattle.std.proofs.lemmas.List.Sums.{prefix_len-le-length}
use Rattle.std.proofs.lemmas.Option.{slice_get-get_or}
use Rattle.doc_types.specs.declared.documents.DocRow.{DocRow}
use Rattle.doc_types.specs.Snapshots.{LayerValue, IsLayer, is_dead}
use Rattle.doc_types.proofs.BinarySearches.{found_place}
use Rattle.doc_types.proofs.Ids.{apart, same}
use Rattle.layer_commit.specs.steps.Finding.{before, dead_with, joined, living_row, unless_dead}
use Rattle.layer_commit.proofs.RowMaps.{equal, first_false, second_false, true_false}

-- a number is a member
abbrev pub has : List ℕ → ℕ → Bool
has xs k = list_any (λ x. x == k) xs

-- they ascend
abbrev pub Up : List ℕ → Type 0
Up xs = AllPairs (λ x later. x < later) xs

above_first : (x : ℕ) (xs : List ℕ) → Up (x ∷ xs) → All (λ y. x < y) xs
above_first x xs up k d h = up 0 (suc k) d (omega arith) (omega (arith, h))

up_rest : (x : ℕ) (xs : List ℕ) → Up (x ∷ xs) → Up xs
up_rest x xs up i j d l h = up (suc i) (suc j) d (omega (arith, l)) (omega (arith, h))

-- a number that isn't above all of them isn't a member where they are above it
none_has : (k : ℕ) (xs : List ℕ) → All (λ x. k < x) xs → has xs k ≡ false
none_has k [] above = refl
none_has k (x ∷ xs) above =
    ap (λ b. b || has xs k) (apart x k (omega (arith, All-head (λ x. k < x) x xs above))) ∙ none_has k xs (All-tail (λ x. k < x) x xs above)

has_first : (x : ℕ) (xs : List ℕ) → has (x ∷ xs) x ≡ true
has_first x xs = ap (λ b. b || has xs x) (same x x refl)

-- a member of a list that begins with x is x or stands behind it
behind : (x k : ℕ) (xs : List ℕ) → x ≢ k → has (x ∷ xs) k ≡ has xs k
behind x k xs ne = ap (λ b. b || has xs k) (apart x k ne)

all_above : (x k : ℕ) (xs : List ℕ) → k < x → All (λ y. x < y) xs → All (λ y. k < y) (x ∷ xs)
all_above x k xs low above zero d h = low
all_above x k xs low above (suc n) d h = omega (arith, low, above n d (omega (arith, h)))

not_below : (x y : ℕ) (xs ys : List ℕ) → Up (x ∷ xs) → Up (y ∷ ys) → ((k : ℕ) → has (x ∷ xs) k ≡ has (y ∷ ys) k) → x < y → ⊥
not_below x y xs ys upx upy alike l = true_false (sym (has_first x xs) ∙ alike x ∙ none_has x (y ∷ ys) (all_above y x ys l (above_first y ys upy)))

same_first : (x y : ℕ) (xs ys : List ℕ) → Up (x ∷ xs) → Up (y ∷ ys) → ((k : ℕ) → has (x ∷ xs) k ≡ has (y ∷ ys) k) → x ≡ y
same_first x y xs ys upx upy alike =
    elim (cases_lt x y) [
      | inl l ↦ absurd (not_below x y xs ys upx upy alike l)
      | inr le ↦ elim (cases_lt y x) [
        | inl l ↦ absurd (not_below y x ys xs upy upx (λ k. sym (alike k)) l)
        | inr ge ↦ omega (arith, le, ge)
      ]
    ]

rest_alike : (x k : ℕ) (xs ys : List ℕ) → Up (x ∷ xs) → Up (x ∷ ys) → ((k : ℕ) → has (x ∷ xs) k ≡ has (x ∷ ys) k) → has xs k ≡ has ys k
rest_alike x k xs ys upx upy alike =
    elim (x == k) as (λ b. (x == k) ≡ b → has xs k ≡ has ys k) [
      | true ↦ λ e.
          let here : x ≡ k = equal x k e in
          ap (has xs) (sym here) ∙ none_has x xs (above_first x xs upx) ∙ sym (none_has x ys (above_first x ys upy)) ∙ ap (has ys) here
      | false ↦ λ e. sym (ap (λ b. b || has xs k) e) ∙ alike k ∙ ap (λ b. b || has ys k) e
    ] refl

-- ascending lists with the same members are one
pub one_list : (xs ys : List ℕ) → Up xs → Up ys → ((k : ℕ) → has xs k ≡ has ys k) → xs ≡ ys
one_list [] [] upx upy alike = refl
one_list [] (y ∷ ys) upx upy alike = absurd (true_false (sym (has_first y ys) ∙ sym (alike y)))
one_list (x ∷ xs) [] upx upy alike = absurd (true_false (sym (has_first x xs) ∙ alike x))
one_list (x ∷ xs) (y ∷ ys) upx upy alike =
    let e : x ≡ y = same_first x y xs ys upx upy alike in
    let up : Up (x ∷ ys) = subst (λ z. Up (z ∷ ys)) (sym e) upy in
    let like : (k : ℕ) → has (x ∷ xs) k ≡ has (x ∷ ys) k = λ k. alike k ∙ ap (λ z. has (z ∷ ys) k) (sym e) in
    ap (λ z. z ∷ xs) e ∙ ap (λ zs. y ∷ zs) (one_list xs ys (up_rest x xs upx) (up_rest y ys upy) (λ k. rest_alike x k xs ys upx up like))

-- the numbers of what passes ascend, from the first
from_first : {X : Type 0} (q : ℕ × X → Bool) (n k : ℕ) (xs : List X) → k < n → All (λ m. k < m) (map (λ (e : ℕ × X). e.0) (filter q (enumerate_from n xs)))
from_first q n k [] h = λ i d l. absurd (omega (arith, l))
from_first {X} q n k (x ∷ xs) h =
    elim (q (n, x)) as (λ b. All (λ m. k < m) (map (λ (e : ℕ × X). e.0) (cond b ((n, x) ∷ filter q (enumerate_from (n + 1) xs)) (filter q (enumerate_from (n + 1) xs))))) [
      | true ↦ λ i d l. elim i as (λ i. i < suc (length (map (λ (e : ℕ × X). e.0) (filter q (enumerate_from (n + 1) xs)))) → k < get_or (n ∷ map (λ (e : ℕ × X). e.0) (filter q (enumerate_from (n + 1) xs))) i d) [
        | zero ↦ λ l. h
        | suc i ↦ λ l. from_first q (n + 1) k xs (omega (arith, h)) i d (omega (arith, l))
      ] l
      | false ↦ from_first q (n + 1) k xs (omega (arith, h))
    ]

numbers_up : {X : Type 0} (q : ℕ × X → Bool) (n : ℕ) (xs : List X) → Up (map (λ (e : ℕ × X). e.0) (filter q (enumerate_from n xs)))
numbers_up q n [] = λ i j d l h. absurd (omega (arith, h))
numbers_up {X} q n (x ∷ xs) =
    elim (q (n, x)) as (λ b. Up (map (λ (e : ℕ × X). e.0) (cond b ((n, x) ∷ filter q (enumerate_from (n + 1) xs)) (filter q (enumerate_from (n + 1) xs))))) [
      | true ↦ AllPairs-cons (λ x later. x < later) n (map (λ (e : ℕ × X). e.0) (filter q (enumerate_from (n + 1) xs))) (from_first q (n + 1) n xs (omega arith)) (numbers_up q (n + 1) xs)
      | false ↦ numbers_up q (n + 1) xs
    ]

numbers_within : {X : Type 0} (q : ℕ × X → Bool) (n : ℕ) (xs : List X) → All (λ m. m < n + length xs) (map (λ (e : ℕ × X). e.0) (filter q (enumerate_from n xs)))
numbers_within q n [] = λ i d l. absurd (omega (arith, l))
numbers_within {X} q n (x ∷ xs) =
    elim (q (n, x)) as (λ b. All (λ m. m < n + suc (length xs)) (map (λ (e : ℕ × X). e.0) (cond b ((n, x) ∷ filter q (enumerate_from (n + 1) xs)) (filter q (enumerate_from (n + 1) xs))))) [
      | true ↦ λ i d l. elim i as (λ i. i < suc (length (map (λ (e : ℕ × X). e.0) (filter q (enumerate_from (n + 1) xs)))) → get_or (n ∷ map (λ (e : ℕ × X). e.0) (filter q (enumerate_from (n + 1) xs))) i d < n + suc (length xs)) [
        | zero ↦ λ l. omega arith
        | suc i ↦ λ l. omega (arith, numbers_within q (n + 1) xs i d (omega (arith, l)))
      ] l
      | false ↦ λ i d l. omega (arith, numbers_within q (n + 1) xs i d l)
    ]

-- a layer whose rows of some ids died is a layer
pub layer_is : (dies : ℕ → Bool) (layer : LayerValue) → IsLayer layer → IsLayer (record layer { dead = dead_with dies layer })
layer_is dies layer is = record {
  content = is.content;
  ascend = numbers_up (λ (e : ℕ × DocRow). is_dead layer e.0 || dies e.1.doc.id) 0 layer.rows;
  rows = λ k d h. (let low : get_or (dead_with dies layer) k d < 0 + length layer.rows = numbers_within (λ (e : ℕ × DocRow). is_dead layer e.0 || dies e.1.doc.id) 0 layer.rows k d h in omega (arith, low));
}

at_first : {X : Type 0} (q : ℕ × X → Bool) (n : ℕ) (x : X) (xs : List X) → has (map (λ (e : ℕ × X). e.0) (filter q (enumerate_from n (x ∷ xs)))) n ≡ q (n, x)
at_first {X} q n x xs =
    elim (q (n, x)) as (λ b. has (map (λ (e : ℕ × X). e.0) (cond b ((n, x) ∷ filter q (enumerate_from (n + 1) xs)) (filter q (enumerate_from (n + 1) xs)))) n ≡ b) [
      | true ↦ has_first n (map (λ (e : ℕ × X). e.0) (filter q (enumerate_from (n + 1) xs)))
      | false ↦ none_has n (map (λ (e : ℕ × X). e.0) (filter q (enumerate_from (n + 1) xs))) (from_first q (n + 1) n xs (omega arith))
    ]

-- which numbers are among those of what passes
among : {X : Type 0} (q : ℕ × X → Bool) (n k m : ℕ) (xs : List X) → m ≡ n + k → has (map (λ (e : ℕ × X). e.0) (filter q (enumerate_from n xs))) m ≡ option_map_or (λ x. q (m, x)) (slice_get xs k) false
among q n k m [] at = refl
among {X} q n zero m (x ∷ xs) at =
    let e : m ≡ n = omega (arith, at) in
    ap (has (map (λ (e : ℕ × X). e.0) (filter q (enumerate_from n (x ∷ xs))))) e ∙ at_first q n x xs ∙ ap (λ k. q (k, x)) (sym e)
among {X} q n (suc k) m (x ∷ xs) at =
    let ne : n ≢ m = omega (arith, at) in
    let rest = among q (n + 1) k m xs (omega (arith, at)) in
    elim (q (n, x)) as (λ b. has (map (λ (e : ℕ × X). e.0) (cond b ((n, x) ∷ filter q (enumerate_from (n + 1) xs)) (filter q (enumerate_from (n + 1) xs)))) m ≡ option_map_or (λ x. q (m, x)) (slice_get xs k) false) [
      | true ↦ behind n m (map (λ (e : ℕ × X). e.0) (filter q (enumerate_from (n + 1) xs))) ne ∙ rest
      | false ↦ rest
    ]

-- the members of two lists that were joined are those of both
any_split : (p : ℕ → Bool) (n : ℕ) (xs : List ℕ) → (list_any p (take n xs) || list_any p (drop n xs)) ≡ list_any p xs
any_split p n xs = sym (list_any-append p (take n xs) (drop n xs)) ∙ ap (list_any p) (take-append-drop n xs)

moved_out : (a b c d : Bool) → (a || (b || (c || d))) ≡ ((a || c) || (b || d))
moved_out true b c d = refl
moved_out false true true d = refl
moved_out false true false d = refl
moved_out false false c d = refl

joined_has : (dead more : List ℕ) (k : ℕ) → has (joined dead more) k ≡ (has dead k || has more k)
joined_has dead [] k = elim (has dead k) as (λ b. b ≡ (b || false)) [ true ↦ refl | false ↦ refl ]
joined_has dead (row ∷ more) k =
    list_any-append (λ x. x == k) (take (before row dead) dead) (row ∷ joined (drop (before row dead) dead) more)
    ∙ ap (λ b. has (take (before row dead) dead) k || ((row == k) || b)) (joined_has (drop (before row dead) dead) more k)
    ∙ moved_out (has (take (before row dead) dead) k) (row == k) (has (drop (before row dead) dead) k) (has more k)
    ∙ ap (λ b. b || ((row == k) || has more k)) (any_split (λ x. x == k) (before row dead) dead)

joined_all : (P : ℕ → Type 0) (dead more : List ℕ) → All P dead → All P more → All P (joined dead more)
joined_all P dead [] d m = d
joined_all P dead (row ∷ more) d m =
    All-append P (take (before row dead) dead) (row ∷ joined (drop (before row dead) dead) more)
    (All-take P (before row dead) dead d)
    (All-cons P row (joined (drop (before row dead) dead) more) (All-head P row more m) (joined_all P (drop (before row dead) dead) more (All-drop P (before row dead) dead d) (All-tail P row more m)))

below_true : (a b : ℕ) → nat_lt a b ≡ true → a < b
below_true a b e = ltb-true a b e

below_false : (a b : ℕ) → nat_lt a b ≡ false → b ≤ a
below_false a b e = ltb-false a b e

take_one : (n x : ℕ) (xs : List ℕ) → take (1 + n) (x ∷ xs) ≡ x ∷ take n xs
take_one n x xs = (let one : 1 + n ≡ suc n = omega arith in ap (λ m. take m (x ∷ xs)) one)

drop_one : (n x : ℕ) (xs : List ℕ) → drop (1 + n) (x ∷ xs) ≡ drop n xs
drop_one n x xs = (let one : 1 + n ≡ suc n = omega arith in ap (λ m. drop m (x ∷ xs)) one)

taken_below : (row : ℕ) (dead : List ℕ) → All (λ x. x < row) (take (before row dead) dead)
taken_below row [] = λ k d h. absurd (omega (arith, h))
taken_below row (x ∷ dead) =
    elim (nat_lt x row) as (λ b. nat_lt x row ≡ b → All (λ x. x < row) (take (cond b (1 + before row dead) 0) (x ∷ dead))) [
      | true ↦ λ e. subst (All (λ x. x < row)) (sym (take_one (before row dead) x dead)) (All-cons (λ x. x < row) x (take (before row dead) dead) (below_true x row e) (taken_below row dead))
      | false ↦ λ e. λ k d h. absurd (omega (arith, h))
    ] refl

rest_above : (row : ℕ) (dead : List ℕ) → Up dead → has dead row ≡ false → All (λ x. row < x) (drop (before row dead) dead)
rest_above row [] up none = λ k d h. absurd (omega (arith, h))
rest_above row (x ∷ dead) up none =
    elim (nat_lt x row) as (λ b. nat_lt x row ≡ b → All (λ x. row < x) (drop (cond b (1 + before row dead) 0) (x ∷ dead))) [
      | true ↦ λ e. subst (All (λ x. row < x)) (sym (drop_one (before row dead) x dead)) (rest_above row dead (up_rest x dead up) (second_false (x == row) (has dead row) none))
      | false ↦ λ e.
          let ne : x ≢ row = λ same_row. true_false (sym (same x row same_row) ∙ first_false (x == row) (has dead row) none) in
          let over : row < x = omega (arith, below_false x row e, ne) in
          all_above x row dead over (above_first x dead up)
    ] refl

pairs_append : (xs ys : List ℕ) → Up xs → Up ys → (row : ℕ) → All (λ x. x < row) xs → All (λ y. row ≤ y) ys → Up (xs ++ ys)
pairs_append [] ys upx upy row low high = upy
pairs_append (x ∷ xs) ys upx upy row low high =
    AllPairs-cons (λ x later. x < later) x (xs ++ ys)
    (All-append (λ y. x < y) xs ys (above_first x xs upx) (λ k d h. omega (arith, high k d h, All-head (λ x. x < row) x xs low)))
    (pairs_append xs ys (up_rest x xs upx) upy row (All-tail (λ x. x < row) x xs low) high)

up_take : (n : ℕ) (xs : List ℕ) → Up xs → Up (take n xs)
up_take zero xs up = λ i j d l h. absurd (omega (arith, h))
up_take (suc n) [] up = λ i j d l h. absurd (omega (arith, h))
up_take (suc n) (x ∷ xs) up = AllPairs-cons (λ x later. x < later) x (take n xs) (All-take (λ y. x < y) n xs (above_first x xs up)) (up_take n xs (up_rest x xs up))

pub up_drop : (n : ℕ) (xs : List ℕ) → Up xs → Up (drop n xs)
up_drop zero xs up = up
up_drop (suc n) [] up = λ i j d l h. absurd (omega (arith, h))
up_drop (suc n) (x ∷ xs) up = up_drop n xs (up_rest x xs up)

none_dropped : (p : ℕ → Bool) (n : ℕ) (xs : List ℕ) → list_any p xs ≡ false → list_any p (drop n xs) ≡ false
none_dropped p n xs e = second_false (list_any p (take n xs)) (list_any p (drop n xs)) (any_split p n xs ∙ e)

-- two ascending lists without a common member are joined to one that ascends
joined_up : (dead more : List ℕ) → Up dead → Up more → All (λ row. has dead row ≡ false) more → Up (joined dead more)
joined_up dead [] upd upm apart_all = upd
joined_up dead (row ∷ more) upd upm apart_all =
    let none : has dead row ≡ false = All-head (λ row. has dead row ≡ false) row more apart_all in
    let rest : List ℕ = drop (before row dead) dead in
    let over : All (λ x. row < x) (joined rest more) = joined_all (λ x. row < x) rest more (rest_above row dead upd none) (above_first row more upm) in
    pairs_append (take (before row dead) dead) (row ∷ joined rest more) (up_take (before row dead) dead upd)
    (AllPairs-cons (λ x later. x < later) row (joined rest more) over
    (joined_up rest more (up_drop (before row dead) dead upd) (up_rest row more upm) (λ k d h. none_dropped (λ x. x == get_or more k d) (before row dead) dead (All-tail (λ row. has dead row ≡ false) row more apart_all k d h))))
    row (taken_below row dead) (All-cons (λ y. row ≤ y) row (joined rest more) (omega arith) (λ k d h. omega (arith, over k d h)))

some_from : {X : Type 0} (p : X → Bool) (i : ℕ) (xs : List X) → is_some (position_from p i xs) ≡ list_any p xs
some_from p i [] = refl
some_from p i (x ∷ xs) = elim (p x) as (λ b. is_some (cond b (Some i) (position_from p (i + 1) xs)) ≡ (b || list_any p xs)) [ true ↦ refl | false ↦ some_from p (i + 1) xs ]

-- an element that passes has a place
some_position : {X : Type 0} (p : X → Bool) (xs : List X) → is_some (position p xs) ≡ list_any p xs
some_position p xs = ap is_some (position_from-zero p xs) ∙ some_from p 0 xs

-- a row, as what an index past the end gives
blank : DocRow
blank = record { doc = record { id = 0; fields = []; values = [] }; born = 0 }

abbrev IdsUp : List DocRow → Type 0
IdsUp rows = AllPairs (λ row later. row.doc.id < later.doc.id) rows

one_place : (rows : List DocRow) (i j : ℕ) → IdsUp rows → i < length rows → j < length rows → (get_or rows i blank).doc.id ≡ (get_or rows j blank).doc.id → i ≡ j
one_place rows i j up low high e =
    elim (cases_lt i j) [
      | inl l ↦ absurd (omega (arith, up i j blank l high, e))
      | inr ge ↦ elim (cases_lt j i) [
        | inl l ↦ absurd (omega (arith, up j i blank l low, e))
        | inr le ↦ omega (arith, ge, le)
      ]
    ]

earlier : (rows : List DocRow) (i j : ℕ) → IdsUp rows → i < length rows → (get_or rows i blank).doc.id < (get_or rows j blank).doc.id → i < j
earlier rows i j up low l =
    elim (cases_lt i j) [
      | inl before ↦ before
      | inr ge ↦ elim (cases_lt j i) [
        | inl after ↦ absurd (omega (arith, up j i blank after low, l))
        | inr le ↦ (let same_place : i ≡ j = omega (arith, ge, le) in absurd (omega (arith, l, ap (λ k. (get_or rows k blank).doc.id) same_place)))
      ]
    ]

-- the row of this number lives and has the id
record IsLivingRow (layer : LayerValue) (id row : ℕ) : Type 0 where
  within : row < length layer.rows
  own : (get_or layer.rows row blank).doc.id ≡ id
  alive : is_dead layer row ≡ false

unless : (layer : LayerValue) (id p row : ℕ) → p < length layer.rows → (get_or layer.rows p blank).doc.id ≡ id → (b : Bool) → is_dead layer p ≡ b → cond b None (Some p) ≡ Some row → IsLivingRow layer id row
unless layer id p row within own true at e = cc
unless layer id p row within own false at e =
    let here : p ≡ row = ap (λ (o : Option ℕ). option_map_or (λ n. n) o 0) e in
    subst (IsLivingRow layer id) here (record { within = within; own = own; alive = at })

at_place : (layer : LayerValue) (id row : ℕ) (o : Option ℕ) → position (λ row. row.doc.id == id) layer.rows ≡ o → option_and_then (unless_dead layer) o ≡ Some row → IsLivingRow layer id row
at_place layer id row None at e = cc
at_place layer id row (Some p) at e =
    let its = position-Some (λ (row : DocRow). row.doc.id == id) layer.rows p blank at in
    unless layer id p row its.0 (equal (get_or layer.rows p blank).doc.id id its.1) (is_dead layer p) refl e

is_living_row : (layer : LayerValue) (id row : ℕ) → living_row layer id ≡ Some row → IsLivingRow layer id row
is_living_row layer id row e = at_place layer id row (position (λ (row : DocRow). row.doc.id == id) layer.rows) refl e

later_rows : (layer : LayerValue) (id row : ℕ) → IdsUp layer.rows → IsLivingRow layer id row → (ids : List ℕ) → All (λ later. id < later) ids → All (λ m. row < m) (filter_map (living_row layer) ids)
later_rows layer id row up its [] above = λ k d h. absurd (omega (arith, h))
later_rows layer id row up its (x ∷ ids) above =
    let rest = later_rows layer id row up its ids (All-tail (λ later. id < later) x ids above) in
    elim (living_row layer x) as (λ o. living_row layer x ≡ o → All (λ m. row < m) (cons_option o (filter_map (living_row layer) ids))) [
      | None ↦ λ e. rest
      | Some m ↦ λ e.
          let other : IsLivingRow layer x m = is_living_row layer x m e in
          let l : row < m = earlier layer.rows row m up its.within (omega (arith, its.own, other.own, All-head (λ later. id < later) x ids above)) in
          All-cons (λ m. row < m) m (filter_map (living_row layer) ids) l rest
    ] refl

-- the rows of ascending ids ascend
pub rows_up : (layer : LayerValue) → IdsUp layer.rows → (ids : List ℕ) → Up ids → Up (filter_map (living_row layer) ids)
rows_up layer up [] upi = λ i j d l h. absurd (omega (arith, h))
rows_up layer up (id ∷ ids) upi =
    let rest = rows_up layer up ids (up_rest id ids upi) in
    elim (living_row layer id) as (λ o. living_row layer id ≡ o → Up (cons_option o (filter_map (living_row layer) ids))) [
      | None ↦ λ e. rest
      | Some row ↦ λ e. AllPairs-cons (λ x later. x < later) row (filter_map (living_row layer) ids) (later_rows layer id row up (is_living_row layer id row e) ids (above_first id ids upi)) rest
    ] refl

-- what holds of each row that lives and has some id
rows_all : (layer : LayerValue) (P : ℕ → Type 0) → ((id row : ℕ) → IsLivingRow layer id row → P row) → (ids : List ℕ) → All P (filter_map (living_row layer) ids)
rows_all layer P each [] = λ k d h. absurd (omega (arith, h))
rows_all layer P each (id ∷ ids) =
    elim (living_row layer id) as (λ o. living_row layer id ≡ o → All P (cons_option o (filter_map (living_row layer) ids))) [
      | None ↦ λ e. rows_all layer P each ids
      | Some row ↦ λ e. All-cons P row (filter_map (living_row layer) ids) (each id row (is_living_row layer id row e)) (rows_all layer P each ids)
    ] refl

mapped_has : (f : ℕ → Option ℕ) (k : ℕ) (ids : List ℕ) → has (filter_map f ids) k ≡ list_any (λ id. option_map_or (λ row. row == k) (f id) false) ids
mapped_has f k [] = refl
mapped_has f k (id ∷ ids) =
    elim (f id) as (λ o. has (cons_option o (filter_map f ids)) k ≡ (option_map_or (λ row. row == k) o false || list_any (λ id. option_map_or (λ row. row == k) (f id) false) ids)) [
      | None ↦ mapped_has f k ids
      | Some row ↦ ap (λ b. (row == k) || b) (mapped_has f k ids)
    ]

and_false : (b : Bool) → (b && false) ≡ false
and_false true = refl
and_false false = refl

any_and : (b : Bool) (k : ℕ) (ids : List ℕ) → list_any (λ id. b && (id == k)) ids ≡ (b && has ids k)
any_and true k ids = refl
any_and false k [] = refl
any_and false k (id ∷ ids) = any_and false k ids

any_alike : (p q : ℕ → Bool) → ((x : ℕ) → p x ≡ q x) → (xs : List ℕ) → list_any p xs ≡ list_any q xs
any_alike p q e xs = let same_test : p ≡ q = λ i x. e x i in ap (λ t. list_any t xs) same_test

own_hit : (layer : LayerValue) (id k : ℕ) → IdsUp layer.rows → k < length layer.rows → (get_or layer.rows k blank).doc.id ≡ id → (o : Option ℕ) → position (λ row. row.doc.id == id) layer.rows ≡ o
    → option_map_or (λ row. row == k) (option_and_then (unless_dead layer) o) false ≡ not (is_dead layer k)
own_hit layer id k up low own None at =
    absurd (true_false (sym (list_any_at (λ (row : DocRow). row.doc.id == id) layer.rows k blank low (same (get_or layer.rows k blank).doc.id id own)) ∙ sym (some_position (λ (row : DocRow). row.doc.id == id) layer.rows) ∙ ap is_some at))
own_hit layer id k up low own (Some p) at =
    let its = position-Some (λ (row : DocRow). row.doc.id == id) layer.rows p blank at in
    let here : p ≡ k = one_place layer.rows p k up its.0 low (equal (get_or layer.rows p blank).doc.id id its.1 ∙ sym own) in
    ap (λ p. option_map_or (λ row. row == k) (unless_dead layer p) false) here
    ∙ elim (is_dead layer k) as (λ b. option_map_or (λ row. row == k) (cond b None (Some k)) false ≡ not b) [ true ↦ refl | false ↦ same k k refl ]

other_hit : (layer : LayerValue) (id k : ℕ) → (get_or layer.rows k blank).doc.id ≢ id → (o : Option ℕ) → living_row layer id ≡ o → option_map_or (λ row. row == k) o false ≡ false
other_hit layer id k other None at = refl
other_hit layer id k other (Some row) at =
    let its : IsLivingRow layer id row = is_living_row layer id row at in
    apart row k (λ here. other (ap (λ k. (get_or layer.rows k blank).doc.id) (sym here) ∙ its.own))

hit : (layer : LayerValue) (id k : ℕ) → IdsUp layer.rows → k < length layer.rows → option_map_or (λ row. row == k) (living_row layer id) false ≡ (not (is_dead layer k) && (id == (get_or layer.rows k blank).doc.id))
hit layer id k up low =
    elim (id == (get_or layer.rows k blank).doc.id) as (λ b. (id == (get_or layer.rows k blank).doc.id) ≡ b → option_map_or (λ row. row == k) (living_row layer id) false ≡ (not (is_dead layer k) && b)) [
      | true ↦ λ e.
          own_hit layer id k up low (sym (equal id (get_or layer.rows k blank).doc.id e)) (position (λ (row : DocRow). row.doc.id == id) layer.rows) refl
          ∙ elim (not (is_dead layer k)) as (λ b. b ≡ (b && true)) [ true ↦ refl | false ↦ refl ]
      | false ↦ λ e.
          other_hit layer id k (λ own. true_false (sym (same id (get_or layer.rows k blank).doc.id (sym own)) ∙ e)) (living_row layer id) refl
          ∙ sym (and_false (not (is_dead layer k)))
    ] refl

-- a number at which no list reaches isn't a member
past : (k n : ℕ) (xs : List ℕ) → n ≤ k → All (λ x. x < n) xs → has xs k ≡ false
past k n xs le all = list_any_none (λ x. x == k) xs (λ i d h. apart (get_or xs i d) k (omega (arith, le, all i d h)))

or_and : (a b : Bool) → (a || (not a && b)) ≡ (a || b)
or_and true b = refl
or_and false b = refl

-- the dead rows and those that live and have these ids are the rows that are dead after these died
module _ (layer : LayerValue) (is : IsLayer layer) (ids : List ℕ) where
  low_alike : (k : ℕ) → k < length layer.rows → has (joined layer.dead (filter_map (living_row layer) ids)) k ≡ has (dead_with (has ids) layer) k
  low_alike k low =
      joined_has layer.dead (filter_map (living_row layer) ids) k
      ∙ ap (λ b. has layer.dead k || b)
      (mapped_has (living_row layer) k ids
      ∙ any_alike (λ id. option_map_or (λ row. row == k) (living_row layer id) false) (λ id. not (is_dead layer k) && (id == (get_or layer.rows k blank).doc.id)) (λ id. hit layer id k is.content.of.ids low) ids
      ∙ any_and (not (is_dead layer k)) (get_or layer.rows k blank).doc.id ids)
      ∙ or_and (is_dead layer k) (has ids (get_or layer.rows k blank).doc.id)
      ∙ sym (among (λ (e : ℕ × DocRow). is_dead layer e.0 || has ids e.1.doc.id) 0 k k layer.rows (omega arith)
      ∙ ap (λ o. option_map_or (λ (row : DocRow). is_dead layer k || has ids row.doc.id) o false) (slice_get-get_or layer.rows k blank low))

  killed_within : All (λ row. row < length layer.rows) (filter_map (living_row layer) ids)
  killed_within = rows_all layer (λ row. row < length layer.rows) (λ id row its. its.within) ids

  high_alike : (k : ℕ) → length layer.rows ≤ k → has (joined layer.dead (filter_map (living_row layer) ids)) k ≡ has (dead_with (has ids) layer) k
  high_alike k high =
      past k (length layer.rows) (joined layer.dead (filter_map (living_row layer) ids)) high (joined_all (λ row. row < length layer.rows) layer.dead (filter_map (living_row layer) ids) is.rows killed_within)
      ∙ sym (past k (length layer.rows) (dead_with (has ids) layer) high (layer_is (has ids) layer is).rows)

  alike : (k : ℕ) → has (joined layer.dead (filter_map (living_row layer) ids)) k ≡ has (dead_with (has ids) layer) k
  alike k = elim (cases_lt k (length layer.rows)) [ inl low ↦ low_alike k low | inr high ↦ high_alike k high ]

  pub joined_is : Up ids → joined layer.dead (filter_map (living_row layer) ids) ≡ dead_with (has ids) layer
  joined_is up =
      one_list (joined layer.dead (filter_map (living_row layer) ids)) (dead_with (has ids) layer)
      (joined_up layer.dead (filter_map (living_row layer) ids) is.ascend (rows_up layer is.content.of.ids ids up) (rows_all layer (λ row. has layer.dead row ≡ false) (λ id row its. its.alive) ids))
      (layer_is (has ids) layer is).ascend
      alike

all_pass : {X : Type 0} (p : X → Bool) → ((x : X) → p x ≡ true) → (xs : List X) → filter p xs ≡ xs
all_pass p e [] = refl
all_pass p e (x ∷ xs) = ap (λ b. cond b (x ∷ filter p xs) (filter p xs)) (e x) ∙ ap (λ rest. x ∷ rest) (all_pass p e xs)

or_true : (b : Bool) → (b || true) ≡ true
or_true true = refl
or_true false = refl

-- the numbers of all rows
pub all_numbers : (layer : LayerValue) (rows : List ℕ) → length rows ≡ length layer.rows → ((k d : ℕ) → k < length rows → get_or rows k d ≡ k) → rows ≡ dead_with (λ id. true) layer
all_numbers layer rows long each =
    same_lists rows (map (λ (e : ℕ × DocRow). e.0) (enumerate_from 0 layer.rows))
    (long ∙ sym (length-map (enumerate_from 0 layer.rows) (λ (e : ℕ × DocRow). e.0) ∙ length-enumerate_from 0 layer.rows))
    (λ k d h.
    each k d h
    ∙ (let none : k ≡ 0 + k = omega arith in none)
    ∙ sym (get_or-map (λ (e : ℕ × DocRow). e.0) (enumerate_from 0 layer.rows) k (d, blank)
    ∙ ap (λ (e : ℕ × DocRow). e.0) (get_or-enumerate_from 0 layer.rows k (d, blank) (omega (arith, h, long)))))
    ∙ sym (ap (map (λ (e : ℕ × DocRow). e.0)) (all_pass (λ (e : ℕ × DocRow). is_dead layer e.0 || true) (λ e. or_true (is_dead layer e.0)) (enumerate_from 0 layer.rows)))

same_test : (a b : ℕ) → (a == b) ≡ is_eq (nat_cmp a b)
same_test a b = grind (arith, nat_tests)

is_less : (a b : ℕ) → a < b → nat_cmp a b ≡ Less
is_less a b l = grind (arith, nat_tests)

ok_some : {A B : Type 0} (r : Result A B) → is_ok r ≡ is_some (result_ok r)
ok_some (Ok a) = refl
ok_some (Err b) = refl

-- what a search among dead rows finds
pub search_has : (dead : List ℕ) (row : ℕ) (r : Result ℕ ℕ) → Up dead → IsSearchInRange r (length dead) → IsBinarySearchResult (λ n. nat_cmp n row) dead r → is_ok r ≡ has dead row
search_has dead row r up range search =
    ok_some r
    ∙ ap is_some (found_place nat_cmp_total (λ (n : ℕ). n) row (λ n. n == row) (λ n. same_test n row) dead (λ i j d l h. is_less (get_or dead i d) (get_or dead j d) (up i j d l h)) r range search)
    ∙ some_position (λ n. n == row) dead

-- where a list is parted by a test, so many of its first elements pass
parted_len : (p : ℕ → Bool) (xs : List ℕ) (i : ℕ) → i ≤ length xs → IsPartitionPoint (λ x. p x ≡ true) (λ x. p x ≡ false) xs i → i ≡ prefix_len p xs
parted_len p [] i within point = omega (arith, within)
parted_len p (x ∷ xs) zero within point = sym (ap (λ b. cond b (1 + prefix_len p xs) 0) (point.1 0 x (omega arith) (omega arith)))
parted_len p (x ∷ xs) (suc i) within point =
    let first : cond (p x) (1 + prefix_len p xs) 0 ≡ 1 + prefix_len p xs = ap (λ b. cond b (1 + prefix_len p xs) 0) (point.0 0 x (omega arith) (omega arith)) in
    let rest : i ≡ prefix_len p xs = parted_len p xs i (omega (arith, within)) (λ k d a b. point.0 (suc k) d (omega arith) (omega (arith, b)), λ k d a b. point.1 (suc k) d (omega (arith, a)) (omega (arith, b))) in
    omega (arith, first, rest)

-- ascending rows are parted by any row
pub rows_parted : (row : ℕ) (dead : List ℕ) → Up dead → IsPartitionedBy (λ d. ltb d row) dead
rows_parted row dead up i j d order within passed =
    elim (cases_lt i j) [
      | inl l ↦ lt-ltb (get_or dead i d) row (omega (arith, up i j d l within, ltb-true (get_or dead j d) row passed))
      | inr ge ↦ (let here : i ≡ j = omega (arith, order, ge) in ap (λ k. ltb (get_or dead k d) row) here ∙ passed)
    ]

pub before_is : (row : ℕ) (dead : List ℕ) (i : ℕ) → i ≤ length dead → IsPartitionPoint (λ d. ltb d row ≡ true) (λ d. ltb d row ≡ false) dead i → i ≡ before row dead
before_is row dead i within point = parted_len (λ d. ltb d row) dead i within point

-- one row more
pub joined_more : (out rest : List ℕ) (count : ℕ) (more all : List ℕ) (row i : ℕ) → count < length more → row ≡ get_or more count row → i ≡ before row rest → out ++ joined rest (drop count more) ≡ all
    → ((out ++ take i rest) ++ row ∷ []) ++ joined (drop i rest) (drop (count + 1) more) ≡ all
joined_more out rest count more all row i h at here is =
    let left : drop count more ≡ row ∷ drop (count + 1) more = drop_more more count row h ∙ ap (λ r. r ∷ drop (count + 1) more) (sym at) in
    ap (λ i. ((out ++ take i rest) ++ row ∷ []) ++ joined (drop i rest) (drop (count + 1) more)) here
    ∙ append_assoc (out ++ take (before row rest) rest) (row ∷ []) (joined (drop (before row rest) rest) (drop (count + 1) more))
    ∙ append_assoc out (take (before row rest) rest) (row ∷ joined (drop (before row rest) rest) (drop (count + 1) more))
    ∙ ap (λ rows. out ++ joined rest rows) (sym left)
    ∙ is

-- the living row of one id more
pub rows_more : (layer : LayerValue) (ids : List ℕ) (count id : ℕ) (old new : List ℕ) → count < length ids → id ≡ get_or ids count id → old ≡ filter_map (living_row layer) (take count ids) → new ≡ old ++ cons_option (living_row layer id) []
    → new ≡ filter_map (living_row layer) (take (count + 1) ids)
rows_more layer ids count id old new h at was is =
    is
    ∙ ap (λ rows. rows ++ cons_option (living_row layer id) []) was
    ∙ sym (filter_map-append (living_row layer) (take count ids) (id ∷ []))
    ∙ ap (filter_map (living_row layer)) (sym (take_more ids count id h ∙ ap (λ n. take count ids ++ n ∷ []) (sym at)))

-- no more rows stand before a row than there are
pub before_within : (row : ℕ) (dead : List ℕ) → before row dead ≤ length dead
before_within row dead = prefix_len-le-length (λ d. nat_lt d row) dead

-- the lists after one row more
pub joined_next : (out rest : List ℕ) (count : ℕ) (more all : List ℕ) (row i : ℕ) (new left : List ℕ) → count < length more → row ≡ get_or more count row → i ≡ before row rest → out ++ joined rest (drop count more) ≡ all → Up rest
    → new ≡ (out ++ take (before row rest) rest) ++ row ∷ [] → left ≡ drop i rest → (new ++ joined left (drop (count + 1) more) ≡ all) × Up left
joined_next out rest count more all row i new left h at here is up made dropped = (
  ap (λ rows. rows ++ joined left (drop (count + 1) more)) (made ∙ ap (λ i. (out ++ take i rest) ++ row ∷ []) (sym here))
      ∙ ap (λ rows. ((out ++ take i rest) ++ row ∷ []) ++ joined rows (drop (count + 1) more)) dropped
      ∙ joined_more out rest count more all row i h at here is,
  subst Up (sym dropped) (up_drop i rest up),
)

-- the list after the last one
pub joined_end : (out rest : List ℕ) (count : ℕ) (more all : List ℕ) → length more ≤ count → out ++ joined rest (drop count more) ≡ all → out ++ rest ≡ all
joined_end out rest count more all h is = ap (λ rows. out ++ joined rest rows) (sym (drop_of_length-le more {i = count} h)) ∙ is

-- the dead rows of a layer in which those of these ids die
pub dead_of : (layer : LayerValue) → IsLayer layer → (ids : List ℕ) → Up ids → (cleared : Bool) → cleared ≡ false → (dead : List ℕ) → dead ≡ joined layer.dead (filter_map (living_row layer) ids) → dead ≡ dead_with (λ id. cleared || has ids id) layer
dead_of layer is ids up cleared not_cleared dead e = e ∙ joined_is layer is ids up ∙ ap (λ b. dead_with (λ id. b || has ids id) layer) (sym not_cleared)
