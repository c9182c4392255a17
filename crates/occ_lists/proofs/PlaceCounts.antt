-- At how many positions some of the places stand, told by where those places are in order.
use Rattle.std.proofs.Common.{◌≡◌, ℕ, ◌+◌, ◌-◌, suc, zero, Bool, true, false, ◌&&◌, ◌||◌, ◌==◌, not, cond, List, get_or, sym, ap, ◌∙◌, arith, All, IsTrue, slice_get, count_by, nat_le, nat_lt}
use Rattle.std.specs.List.{filter, range_with_len}
use Rattle.std.proofs.lemmas.Bool.Decides.{nat_tests}
use Rattle.std.proofs.lemmas.List.Elements.{filter_passes}
use Rattle.std.proofs.lemmas.List.Kept.{AllPairs-filter}
use Rattle.occ_lists.specs.Places.{ArePlaces, has_place, is_before, occ}
use Rattle.occ_lists.specs.steps.Wanted.{held_of}
use Rattle.occ_lists.proofs.Counts.{count_cons, count_agree, count_either, count_filter, count_none, count_single, nth_passes, some_passes}

abbrev is_place : ℕ → ℕ → ℕ × ℕ → Bool
is_place f a p = (p.0 == f) && (p.1 == a)

-- in a field, from a position on, so many positions
abbrev in_row : ℕ → ℕ → ℕ → ℕ × ℕ → Bool
in_row f a n p = (p.0 == f) && (nat_le a p.1 && nat_lt p.1 (a + n))

not_again : (f a x0 x1 y0 y1 : ℕ) → (nat_lt x0 y0 || ((x0 == y0) && nat_lt x1 y1)) ≡ true → ((x0 == f) && (x1 == a)) ≡ true → ((y0 == f) && (y1 == a)) ≡ false
not_again f a x0 x1 y0 y1 before here = grind (arith, nat_tests)

row_more : (f a n x y : ℕ) → (((x == f) && (y == a)) || ((x == f) && (nat_le (a + 1) y && nat_lt y ((a + 1) + n)))) ≡ ((x == f) && (nat_le a y && nat_lt y (a + suc n)))
row_more f a n x y = grind (arith, nat_tests)

row_apart : (f a n x y : ℕ) → (((x == f) && (y == a)) && ((x == f) && (nat_le (a + 1) y && nat_lt y ((a + 1) + n)))) ≡ false
row_apart f a n x y = grind (arith, nat_tests)

row_none : (f a x y : ℕ) → ((x == f) && (nat_le a y && nat_lt y (a + 0))) ≡ false
row_none f a x y = grind (arith, nat_tests)

-- The positions of a row at which one of the places stands are as many as the places in it.
range_count : (places : List (ℕ × ℕ)) → ArePlaces places → (f a n : ℕ) → count_by (λ position. has_place places (f, position)) (range_with_len a n) ≡ count_by (in_row f a n) places
range_count places ascend f a zero = sym (count_none (in_row f a 0) places (λ k d h. row_none f a (get_or places k d).0 (get_or places k d).1))
range_count places ascend f a (suc n) =
    count_cons (λ position. has_place places (f, position)) a (range_with_len (a + 1) n)
    ∙ ap (λ m. cond (has_place places (f, a)) 1 0 + m) (range_count places ascend f (a + 1) n)
    ∙ ap (λ m. m + count_by (in_row f (a + 1) n) places) (sym (count_single (is_place f a) places (λ i j d lt h e. not_again f a (get_or places i d).0 (get_or places i d).1 (get_or places j d).0 (get_or places j d).1 (ascend i j d lt h) e)))
    ∙ sym (count_either (is_place f a) (in_row f (a + 1) n) (λ p. row_apart f a n p.0 p.1) places)
    ∙ count_agree (λ p. is_place f a p || in_row f (a + 1) n p) (in_row f a (suc n)) (λ p. row_more f a n p.0 p.1) places

-- in the field, at the last position or before
abbrev pub upto : ℕ → ℕ → ℕ × ℕ → Bool
upto f last p = (p.0 == f) && nat_le p.1 last

row_from : (f a last x y : ℕ) → ((x == f) && (nat_le a y && nat_lt y (a + (last + 1 - a)))) ≡ (not (nat_lt x f || ((x == f) && nat_lt y a)) && ((x == f) && nat_le y last))
row_from f a last x y = grind (arith, nat_tests)

front : (f a last x0 x1 y0 y1 : ℕ) → (nat_lt x0 y0 || ((x0 == y0) && nat_lt x1 y1)) ≡ true → not (nat_lt x0 f || ((x0 == f) && nat_lt x1 a)) ≡ true → ((y0 == f) && nat_le y1 last) ≡ true → ((x0 == f) && nat_le x1 last) ≡ true
front f a last x0 x1 y0 y1 before from there = grind (arith, nat_tests)

-- An occurrence holds one of the places more than n times exactly where the n-th of those from its beginning on lies in it.
pub held_from : (places : List (ℕ × ℕ)) → ArePlaces places → (from : ℕ × ℕ) (last n : ℕ) → nat_le (suc n) (held_of places (occ from.0 from.1 last)) ≡ some_passes (upto from.0 last) (slice_get (filter (λ p. not (is_before p from)) places) n)
held_from places ascend from last n =
    let late : List (ℕ × ℕ) = filter (λ p. not (is_before p from)) places in
    let up : ArePlaces late = AllPairs-filter (λ x y. IsTrue (is_before x y)) (λ p. not (is_before p from)) places ascend in
    let past : All (λ p. not (is_before p from) ≡ true) late = filter_passes (λ p. not (is_before p from)) places in
    let counted : held_of places (occ from.0 from.1 last) ≡ count_by (upto from.0 last) late =
    range_count places ascend from.0 from.1 (last + 1 - from.1)
    ∙ count_agree (in_row from.0 from.1 (last + 1 - from.1)) (λ p. not (is_before p from) && upto from.0 last p) (λ p. row_from from.0 from.1 last p.0 p.1) places
    ∙ sym (count_filter (upto from.0 last) (λ p. not (is_before p from)) places) in
    ap (nat_le (suc n)) counted
    ∙ nth_passes (upto from.0 last) late n (λ i j d lt h e. front from.0 from.1 last (get_or late i d).0 (get_or late i d).1 (get_or late j d).0 (get_or late j d).1 (up i j d lt h) (past i d (omega arith)) e)
