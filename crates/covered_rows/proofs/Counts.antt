-- What the bits and the noted row tell of how often places are taken.
use Rattle.std.proofs.Common.{◌≡◌, ℕ, ◌+◌, ◌<◌, ◌≤◌, true, false, cond, eqb, eq-eqb, List, [], ◌∷◌, ◌++◌, length, get_or, set, refl, sym, ap, subst, ◌∙◌, arith, inl, inr, zero-add, ◌⊎◌}
use Rattle.std.specs.List.{AllByRecursion}
use Rattle.std.proofs.lemmas.Bool.{cases_lt, eqb-true, lt-ltb, le-ltb}
use Rattle.std.proofs.lemmas.List.{get_or-set_same, get_or-set_other}
use Rattle.image_cover.specs.Places.{Seen, take_all, take_place, with_row}
use Rattle.image_cover.proofs.Taken.{take_long}

-- how often a place is taken
abbrev pub times : ℕ → List (ℕ × ℕ) → ℕ
times k [] = 0
times k (x ∷ xs) = cond (eqb x.1 k) 1 0 + times k xs

pub times-append : (k : ℕ) (xs ys : List (ℕ × ℕ)) → times k (xs ++ ys) ≡ times k xs + times k ys
times-append k [] ys = omega arith
times-append k (x ∷ xs) ys = omega (arith, times-append k xs ys)

pub same_or : (a b : ℕ) → (a ≡ b) ⊎ (a ≡ b → ⊥)
same_or a b = elim (eqb a b) as (λ t. eqb a b ≡ t → (a ≡ b) ⊎ (a ≡ b → ⊥)) [ true ↦ λ is. inl (eqb-true a b is) | false ↦ λ is. inr (λ e. let t : eqb a b ≡ true = eq-eqb a b e in absurd cc) ] refl

pub differ : (a b : ℕ) → (a ≡ b → ⊥) → eqb a b ≡ false
differ a b other = elim (eqb a b) as (λ t. eqb a b ≡ t → t ≡ false) [ true ↦ λ is. absurd (other (eqb-true a b is)) | false ↦ λ is. refl ] refl

-- ---- one place

-- a place that was taken before, or not
pub taken : (s : Seen) (x : ℕ × ℕ) → get_or s.0 x.1 0 ≡ 1 → take_place s x ≡ (s.0, with_row s.1 x.0)
taken s x e = ap (λ b. cond {A = Seen} b (s.0, with_row s.1 x.0) (set s.0 x.1 1, s.1)) (eq-eqb (get_or s.0 x.1 0) 1 e)

pub free : (s : Seen) (x : ℕ × ℕ) → (get_or s.0 x.1 0 ≡ 1 → ⊥) → take_place s x ≡ (set s.0 x.1 1, s.1)
free s x e = ap (λ b. cond {A = Seen} b (s.0, with_row s.1 x.0) (set s.0 x.1 1, s.1)) (differ (get_or s.0 x.1 0) 1 e)

-- its bit is set then, and the others are as they were
pub own_bit : (s : Seen) (x : ℕ × ℕ) → x.1 < length s.0 → get_or (take_place s x).0 x.1 0 ≡ 1
own_bit s x low = elim (same_or (get_or s.0 x.1 0) 1) [
  | inl was ↦ ap (λ (t : Seen). get_or t.0 x.1 0) (taken s x was) ∙ was
  | inr not ↦ ap (λ (t : Seen). get_or t.0 x.1 0) (free s x not) ∙ get_or-set_same s.0 x.1 1 0 low
]

pub other_bit : (s : Seen) (x : ℕ × ℕ) (k : ℕ) → (x.1 ≡ k → ⊥) → get_or (take_place s x).0 k 0 ≡ get_or s.0 k 0
other_bit s x k other = elim (same_or (get_or s.0 x.1 0) 1) [
  | inl was ↦ ap (λ (t : Seen). get_or t.0 k 0) (taken s x was)
  | inr not ↦ ap (λ (t : Seen). get_or t.0 k 0) (free s x not) ∙ get_or-set_other s.0 x.1 k 1 0 (λ e. other (sym e))
]

with_row_low : (least row : ℕ) → (with_row least row ≤ least) × (with_row least row ≤ row)
with_row_low least row = elim (cases_lt row least) [
  | inl low ↦ let is : with_row least row ≡ row = ap (λ b. cond b row least) (lt-ltb row least low) in (omega (arith, is, low), omega (arith, is))
  | inr high ↦ let is : with_row least row ≡ least = ap (λ b. cond b row least) (le-ltb row least high) in (omega (arith, is), omega (arith, is, high))
]

with_row_one : (least row : ℕ) → (with_row least row ≡ row) ⊎ (with_row least row ≡ least)
with_row_one least row = elim (cases_lt row least) [
  | inl low ↦ inl (ap (λ b. cond b row least) (lt-ltb row least low))
  | inr high ↦ inr (ap (λ b. cond b row least) (le-ltb row least high))
]

pub lower : (s : Seen) (x : ℕ × ℕ) → (take_place s x).1 ≤ s.1
lower s x = elim (same_or (get_or s.0 x.1 0) 1) [
  | inl was ↦ omega (arith, ap (λ (t : Seen). t.1) (taken s x was), (with_row_low s.1 x.0).0)
  | inr not ↦ omega (arith, ap (λ (t : Seen). t.1) (free s x not))
]

-- ---- all places

pub all_lower : (s : Seen) (xs : List (ℕ × ℕ)) → (take_all s xs).1 ≤ s.1
all_lower s [] = omega arith
all_lower s (x ∷ xs) = omega (arith, all_lower (take_place s x) xs, lower s x)

abbrev pub Within : ℕ → List (ℕ × ℕ) → Type 0
Within count xs = AllByRecursion (λ (x : ℕ × ℕ). x.1 < count) xs

within_on : (s : Seen) (x : ℕ × ℕ) (xs : List (ℕ × ℕ)) → Within (length s.0) xs → Within (length (take_place s x).0) xs
within_on s x xs all = subst (λ n. Within n xs) (sym (take_long s x)) all

pub first_count : (x : ℕ × ℕ) (k : ℕ) (xs : List (ℕ × ℕ)) → x.1 ≡ k → times k (x ∷ xs) ≡ 1 + times k xs
first_count x k xs e = ap (λ b. cond b 1 0 + times k xs) (eq-eqb x.1 k e)

pub not_first : (x : ℕ × ℕ) (k : ℕ) (xs : List (ℕ × ℕ)) → (x.1 ≡ k → ⊥) → times k (x ∷ xs) ≡ times k xs
not_first x k xs e = ap (λ b. cond b 1 0 + times k xs) (differ x.1 k e) ∙ zero-add (times k xs)

-- a bit that is set is of a place that is taken, and the other way round
pub set_taken : (s : Seen) (xs : List (ℕ × ℕ)) (k : ℕ) → Within (length s.0) xs → get_or (take_all s xs).0 k 0 ≡ 1 → 1 ≤ get_or s.0 k 0 + times k xs
set_taken s [] k all e = omega (arith, e)
set_taken s (x ∷ xs) k all e = elim (same_or x.1 k) [
  | inl same ↦ omega (arith, first_count x k xs same)
  | inr other ↦ omega (arith, not_first x k xs other, set_taken (take_place s x) xs k (within_on s x xs all.1) e, other_bit s x k other)
]

pub clear_free : (s : Seen) (xs : List (ℕ × ℕ)) (k : ℕ) → Within (length s.0) xs → get_or (take_all s xs).0 k 0 ≡ 0 → get_or s.0 k 0 + times k xs ≡ 0
clear_free s [] k all e = omega (arith, e)
clear_free s (x ∷ xs) k all e = elim (same_or x.1 k) [
  | inl same ↦
      let rest = clear_free (take_place s x) xs k (within_on s x xs all.1) e in
      let own : get_or (take_place s x).0 k 0 ≡ 1 = subst (λ j. get_or (take_place s x).0 j 0 ≡ 1) same (own_bit s x all.0) in
      absurd (omega (arith, rest, own))
  | inr other ↦ omega (arith, not_first x k xs other, clear_free (take_place s x) xs k (within_on s x xs all.1) e, other_bit s x k other)
]

-- a place that is taken twice is of a row at which or before which one is noted
pub twice_noted : (Q : ℕ × ℕ → Type 0) (s : Seen) (xs : List (ℕ × ℕ)) (k : ℕ) → AllByRecursion Q xs → Within (length s.0) xs → get_or s.0 k 0 ≤ 1 → 2 ≤ get_or s.0 k 0 + times k xs → (row : ℕ) × Q (row, k) × ((take_all s xs).1 ≤ row)
twice_noted Q s [] k are all bit two = absurd (omega (arith, bit, two))
twice_noted Q s (x ∷ xs) k are all bit two = elim (same_or x.1 k) [
  | inl same ↦ elim (same_or (get_or s.0 k 0) 1) [
    | inl was ↦ (
      x.0,
      subst (λ j. Q (x.0, j)) same are.0,
      omega (arith, all_lower (take_place s x) xs, ap (λ (t : Seen). t.1) (taken s x (subst (λ j. get_or s.0 j 0 ≡ 1) (sym same) was)), (with_row_low s.1 x.0).1),
    )
    | inr not ↦
        let own : get_or (take_place s x).0 k 0 ≡ 1 = subst (λ j. get_or (take_place s x).0 j 0 ≡ 1) same (own_bit s x all.0) in
        let none : get_or s.0 k 0 ≡ 0 = zero_of (get_or s.0 k 0) bit not in
        twice_noted Q (take_place s x) xs k are.1 (within_on s x xs all.1) (omega (arith, own)) (omega (arith, own, none, two, first_count x k xs same))
  ]
  | inr other ↦ twice_noted Q (take_place s x) xs k are.1 (within_on s x xs all.1) (omega (arith, bit, other_bit s x k other)) (omega (arith, two, other_bit s x k other, not_first x k xs other))
]
  where
    zero_of : (n : ℕ) → n ≤ 1 → (n ≡ 1 → ⊥) → n ≡ 0
    zero_of n low not = elim (cases_lt n 1) [ inl none ↦ omega (arith, none) | inr some ↦ absurd (not (omega (arith, low, some))) ]

-- a row that is noted was before, or a place of it is taken twice
pub noted_twice : (Q : ℕ × ℕ → Type 0) (s : Seen) (xs : List (ℕ × ℕ)) → AllByRecursion Q xs → Within (length s.0) xs → ((take_all s xs).1 ≡ s.1) ⊎ ((k : ℕ) × Q ((take_all s xs).1, k) × (2 ≤ get_or s.0 k 0 + times k xs))
noted_twice Q s [] are all = inl refl
noted_twice Q s (x ∷ xs) are all = elim (noted_twice Q (take_place s x) xs are.1 (within_on s x xs all.1)) [
  | inl kept ↦ elim (same_or (get_or s.0 x.1 0) 1) [
    | inl was ↦
        let made : (take_place s x).1 ≡ with_row s.1 x.0 = ap (λ (t : Seen). t.1) (taken s x was) in
        elim (with_row_one s.1 x.0) [
          | inl own ↦
              let row : x.0 ≡ (take_all (take_place s x) xs).1 = sym (kept ∙ made ∙ own) in
              inr (x.1, subst (λ r. Q (r, x.1)) row are.0, omega (arith, was, first_count x x.1 xs refl))
          | inr before ↦ inl (kept ∙ made ∙ before)
        ]
    | inr not ↦ inl (kept ∙ ap (λ (t : Seen). t.1) (free s x not))
  ]
  | inr twice ↦ inr (
    twice.0,
    twice.1,
    elim (same_or x.1 twice.0) [
      | inl same ↦
          let own : get_or (take_place s x).0 twice.0 0 ≡ 1 = subst (λ j. get_or (take_place s x).0 j 0 ≡ 1) same (own_bit s x all.0) in
          omega (arith, twice.2, own, first_count x twice.0 xs same)
      | inr other ↦ omega (arith, twice.2, other_bit s x twice.0 other, not_first x twice.0 xs other)
    ],
  )
]
