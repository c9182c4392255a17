-- Rows that a plan lets through and that aren't dead.
use Rattle.std.proofs.Common.{arith, ◌≡◌, ◌≢◌, ◌≤◌, ◌<◌, ◌+◌, ◌-◌, refl, sym, ap, ◌∙◌, subst, ℕ, zero, suc, Bool, true, false, cond, List, [], ◌∷◌, ◌++◌, length, get_or, Option, inl, inr}
use Rattle.std.specs.Prelude.{◌&&◌, ◌||◌, ◌==◌, not, nat_eq, nat_lt, AllPairs}
use Rattle.std.specs.List.{list_any, filter, range_with_len}
use Rattle.std.proofs.lemmas.Bool.{cases_lt, le-ltb, ne_eqb, eq-eqb, cases_eq, cases_order}
use Rattle.std.proofs.lemmas.List.{get_or-take, length-take}
use Rattle.std.proofs.lemmas.List.Folds.{list_any_at}
use Rattle.std.proofs.lemmas.List.Elements.{filter-append, All-more}
use Rattle.doc_types.specs.declared.cursor.Cursor.{Cursor}
use Rattle.doc_types.specs.declared.cursor.TheConstants.{NO_ROW}
use Rattle.doc_types.specs.Chunks.{CursorPlace}
use Rattle.row_plans.specs.declared.plan.Plan.{Plan}
use Rattle.row_plans.specs.Cursors.{Agree, has_at}
use Rattle.row_plans.specs.Living.{HasGone, is_living}
use Rattle.row_plans.specs.Plans.{IsFirst, holds}
use Rattle.row_plans.proofs.Kept.{agree_same}

-- ---- rows in a range

pub range_more : (a n : ℕ) → range_with_len a (n + 1) ≡ range_with_len a n ++ (a + n) ∷ []
range_more a zero = let e : a ≡ a + 0 = omega arith in ap (λ m. m ∷ []) e
range_more a (suc n) =
    let long : suc n + 1 ≡ suc (n + 1) = omega arith in
    let last : a + 1 + n ≡ a + suc n = omega arith in
    ap (range_with_len a) long ∙ ap (λ rest. a ∷ rest) (range_more (a + 1) n ∙ ap (λ m. range_with_len (a + 1) n ++ m ∷ []) last)

module _ (wanted : ℕ → Bool) where
  one : (row : ℕ) (t : Bool) → wanted row ≡ t → filter wanted (row ∷ []) ≡ cond t (row ∷ []) []
  one row t e = ap (λ b. cond b (row ∷ []) []) e

  pub filter_more : (row : ℕ) (t : Bool) → wanted row ≡ t → filter wanted (range_with_len 0 (row + 1)) ≡ filter wanted (range_with_len 0 row) ++ cond t (row ∷ []) []
  filter_more row t e =
      ap (filter wanted) (range_more 0 row ∙ ap (λ m. range_with_len 0 row ++ m ∷ []) (let e : 0 + row ≡ row = omega arith in e)) ∙ filter-append wanted (range_with_len 0 row) (row ∷ []) ∙ ap (λ rest. filter wanted (range_with_len 0 row) ++ rest) (one row t e)

  append_none : (xs : List ℕ) → xs ++ [] ≡ xs
  append_none [] = refl
  append_none (x ∷ xs) = ap (λ rest. x ∷ rest) (append_none xs)

  pub filter_skips : (at k : ℕ) → ((row : ℕ) → at ≤ row → row < at + k → wanted row ≡ false) → filter wanted (range_with_len 0 (at + k)) ≡ filter wanted (range_with_len 0 at)
  filter_skips at zero none = ap (λ n. filter wanted (range_with_len 0 n)) (let e : at + 0 ≡ at = omega arith in e)
  filter_skips at (suc k) none =
      ap (λ n. filter wanted (range_with_len 0 n)) (let e : at + suc k ≡ at + k + 1 = omega arith in e)
      ∙ filter_more (at + k) false (none (at + k) (omega arith) (omega arith)) ∙ append_none (filter wanted (range_with_len 0 (at + k))) ∙ filter_skips at k (λ row m l. none row m (omega arith))

-- ---- dead rows

none_equal : (dead : List ℕ) (row : ℕ) → ((k : ℕ) → k < length dead → get_or dead k 0 ≢ row) → list_any (λ d. d == row) dead ≡ false
none_equal [] row differs = refl
none_equal (x ∷ dead) row differs = ap (λ b. b || list_any (λ d. d == row) dead) (ne_eqb x row (differs 0 (omega arith))) ∙ none_equal dead row (λ k l. differs (suc k) (omega arith))

module _ (dead : List ℕ) (gone row : ℕ) (ascend : AllPairs (λ row later. row < later) dead) (g : HasGone dead gone row) where
  took : (k : ℕ) → k < gone → get_or dead k 0 < row
  took k l = subst (λ x. x < row) (get_or-take gone dead k 0 l) (g.before k 0 (omega (arith, length-take gone dead, g.within)))

  pub dead_past : length dead ≤ gone → nat_lt gone (length dead) ≡ list_any (λ d. d == row) dead
  dead_past l = le-ltb gone (length dead) l ∙ sym (none_equal dead row (λ k m e. absurd (omega (arith, took k (omega arith), e))))

  pub dead_here : gone < length dead → row ≤ get_or dead gone 0 → nat_eq (get_or dead gone 0) row ≡ list_any (λ d. d == row) dead
  dead_here l m = elim (cases_eq (get_or dead gone 0) row) [
    | inl e ↦ eq-eqb (get_or dead gone 0) row e ∙ sym (list_any_at (λ d. d == row) dead gone 0 l (eq-eqb (get_or dead gone 0) row e))
    | inr differs ↦ ne_eqb (get_or dead gone 0) row differs ∙ sym (none_equal dead row (λ k n e. elim (cases_order k gone) [
      | inl is ↦ differs (ap (λ i. get_or dead i 0) (sym is) ∙ e)
      | inr (inl before) ↦ absurd (omega (arith, took k before, e))
      | inr (inr after) ↦ absurd (omega (arith, ascend gone k 0 after n, e, m))
    ]))
  ]

  pub gone_more : gone < length dead → get_or dead gone 0 < row → HasGone dead (gone + 1) row
  gone_more l m = record { within = omega arith; before = All-more (λ d. d < row) dead gone 0 l g.before m }

pub gone_later : (dead : List ℕ) (gone row later : ℕ) → row ≤ later → HasGone dead gone row → HasGone dead gone later
gone_later dead gone row later l g = record { within = g.within; before = λ k d m. omega (arith, g.before k d m, l) }

-- a row that may match and isn't dead
pub living_is : (has : ℕ → Bool) (plan : Plan) (dead : List ℕ) (row : ℕ) → holds has plan ≡ true → list_any (λ d. d == row) dead ≡ false → is_living has plan dead row ≡ true
living_is has plan dead row e f = ap (λ b. b && not (list_any (λ d. d == row) dead)) e ∙ ap not f

pub shut_unless : (has : ℕ → Bool) (plan : Plan) (dead : List ℕ) (row : ℕ) → holds has plan ≡ false → is_living has plan dead row ≡ false
shut_unless has plan dead row e = ap (λ b. b && not (list_any (λ d. d == row) dead)) e

pub shut_dead : (has : ℕ → Bool) (plan : Plan) (dead : List ℕ) (row : ℕ) → list_any (λ d. d == row) dead ≡ true → is_living has plan dead row ≡ false
shut_dead has plan dead row e = ap (λ b. holds has plan && not b) e ∙ both (holds has plan)
  where
    both : (b : Bool) → (b && false) ≡ false
    both true = refl
    both false = refl

-- a step from a row to the next that is open
module _ (belongs : Cursor → Type 0) (place : Cursor → CursorPlace) (old mid : List (Option Cursor)) (plan : Plan) (dead : List ℕ) (from at next : ℕ) (l : from ≤ at) (a : Agree belongs place at old mid)
    (none : (row : ℕ) → from ≤ row → row < at → is_living (has_at place old row) plan dead row ≡ false) (first : IsFirst (λ row. holds (has_at place mid row) plan) at next) where
  pub shut_between : (row : ℕ) → from ≤ row → row < next → is_living (has_at place old row) plan dead row ≡ false
  shut_between row m n = elim (cases_lt row at) [
    | inl before ↦ none row m before
    | inr after ↦ shut_unless (has_at place old row) plan dead row (ap (λ (has : ℕ → Bool). holds has plan) (sym (agree_same belongs place at row old mid after a)) ∙ first.none row after n)
  ]

  pub shut_through : list_any (λ d. d == next) dead ≡ true → (row : ℕ) → from ≤ row → row < next + 1 → is_living (has_at place old row) plan dead row ≡ false
  shut_through e row m n = elim (cases_lt row next) [
    | inl before ↦ shut_between row m before
    | inr after ↦ let same : next ≡ row = omega arith in shut_dead (has_at place old row) plan dead row (ap (λ (r : ℕ). list_any (λ d. d == r) dead) (sym same) ∙ e)
  ]

  pub first_living : (next < NO_ROW → list_any (λ d. d == next) dead ≡ false) → IsFirst (λ row. is_living (has_at place old row) plan dead row) from next
  first_living living = record {
    on = omega (arith, first.on);
    none = shut_between;
    found = λ m. living_is (has_at place old next) plan dead next (ap (λ (has : ℕ → Bool). holds has plan) (sym (agree_same belongs place at next old mid first.on a)) ∙ first.found m) (living m);
  }

-- ---- all the rows

module _ (belongs : Cursor → Type 0) (place : Cursor → CursorPlace) (old mid : List (Option Cursor)) (plan : Plan) (dead : List ℕ) (at row : ℕ) (a : Agree belongs place at old mid)
    (first : IsFirst (λ r. is_living (has_at place mid r) plan dead r) at row) where
  abbrev wanted : ℕ → Bool
  wanted r = is_living (has_at place old r) plan dead r

  passed : (r : ℕ) → at ≤ r → r < row → wanted r ≡ false
  passed r l m = ap (λ (has : ℕ → Bool). is_living has plan dead r) (sym (agree_same belongs place at r old mid l a)) ∙ first.none r l m

  -- none up to a row that lies no further than the next
  found_to : (to : ℕ) → at ≤ to → to ≤ row → filter wanted (range_with_len 0 to) ≡ filter wanted (range_with_len 0 at)
  found_to to l m =
      let e : to ≡ at + (to - at) = omega (arith, l) in
      ap (λ n. filter wanted (range_with_len 0 n)) e ∙ filter_skips wanted at (to - at) (λ r n o. passed r n (omega (arith, l)))

  pub rows_end : (count : ℕ) (xs : List ℕ) → at ≤ count → count ≤ row → xs ≡ filter wanted (range_with_len 0 at) → xs ≡ filter wanted (range_with_len 0 count)
  rows_end count xs l m is = is ∙ sym (found_to count l m)

  pub rows_more : (xs : List ℕ) → row < NO_ROW → xs ≡ filter wanted (range_with_len 0 at) → xs ++ row ∷ [] ≡ filter wanted (range_with_len 0 (row + 1))
  rows_more xs l is =
      let lives : wanted row ≡ true = ap (λ (has : ℕ → Bool). is_living has plan dead row) (sym (agree_same belongs place at row old mid first.on a)) ∙ first.found l in
      ap (λ (ys : List ℕ). ys ++ row ∷ []) (is ∙ sym (found_to row first.on (omega arith))) ∙ sym (filter_more wanted row true lives)
