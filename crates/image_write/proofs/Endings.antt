-- What words have behind their first seven bytes: numbers that keep the order, of which the even ones tell all.
use Rattle.std.proofs.Common.{◌≡◌, ◌⊎◌, inl, inr, ℕ, zero, suc, ◌+◌, ◌-◌, ◌*◌, ◌%◌, ◌<◌, ◌≤◌, List, [], ◌∷◌, Bool, true, false, cond, not, ◌&&◌, ◌||◌, ◌==◌, Some, None, refl, sym, ap, ◌∙◌, arith, drop, length, length-drop}
use Rattle.std.specs.Prelude.{nat_lt, slice_get}
use Rattle.std.specs.Ordering.{nat_cmp, ordering_then}
use Rattle.std.specs.Cmp.Lexicographic.{slice_cmp}
use Rattle.std.specs.declared.cmp.Ordering.TheVariants.{Less}
use Rattle.std.proofs.lemmas.Bool.{cases_lt}
use Rattle.std.proofs.lemmas.Bool.Decides.{nat_tests}
use Rattle.std.proofs.lemmas.Option.{slice_get_cases, slice_get_within}
use Rattle.std.proofs.lemmas.Cmp.{by_ranked, nat_cmp_total, ranked, tied_itself}
use Rattle.image_write.specs.Heads.{eighth, ending, is_own, rank, tells}

own_within : (n : ℕ) → is_own n ≡ true → (0 < n) × (n < 123)
own_within n e = grind (arith, nat_tests)

-- which is told: a byte with a number of its own, and none behind it
parts : (more : Bool) (n : ℕ) → (not more && is_own n) ≡ true → (more ≡ false) × ((0 < n) × (n < 123))
parts true n e = absurd cc
parts false n e = (refl, own_within n e)

choice : (c : Bool) (n : ℕ) → ((c ≡ true) × (cond c (8 + 2 * n) (9 + 2 * n) ≡ 8 + 2 * n)) ⊎ ((c ≡ false) × (cond c (8 + 2 * n) (9 + 2 * n) ≡ 9 + 2 * n))
choice true n = inl (refl, refl)
choice false n = inr (refl, refl)

-- an eighth byte that is told, or one that isn't
taken : (more : Bool) (x : ℕ) → (((not more && is_own (rank x)) ≡ true) × (eighth more x ≡ 8 + 2 * rank x)) ⊎ (((not more && is_own (rank x)) ≡ false) × (eighth more x ≡ 9 + 2 * rank x))
taken more x = choice (not more && is_own (rank x)) (rank x)

pub eighth_within : (more : Bool) (x : ℕ) → (8 ≤ eighth more x) × (eighth more x < 256)
eighth_within more x = elim (taken more x) [
  | inl t ↦ (omega (arith, t.1), omega (arith, t.1))
  | inr t ↦ (omega (arith, t.1), omega (arith, t.1))
]

more_is : (more : Bool) (n : ℕ) → is_own n ≡ true → (not more && is_own n) ≡ false → more ≡ true
more_is true n own e = refl
more_is false n own e = absurd cc

own_is : (more : Bool) (n : ℕ) → (not more && is_own n) ≡ true → is_own n ≡ true
own_is true n e = absurd cc
own_is false n e = e

-- the smaller number is of a smaller byte, or of the same one that ends a word
pub eighth_less : (more other : Bool) (x y : ℕ) → eighth more x < eighth other y → (x < y) ⊎ ((x ≡ y) × ((more ≡ false) × (other ≡ true)))
eighth_less more other x y less = elim (cases_lt x y) [
  | inl low ↦ inl low
  | inr high ↦ elim (taken more x) [
    | inl t ↦ elim (taken other y) [
      | inl s ↦ absurd (omega (arith, less, t.1, s.1, high))
      | inr s ↦
          let p = parts more (rank x) t.0 in
          let same : x ≡ y = omega (arith, less, t.1, s.1, high, p.1.0, p.1.1) in
          let own : is_own (rank y) ≡ true = ap (λ n. is_own (rank n)) (sym same) ∙ own_is more (rank x) t.0 in
          inr (same, (p.0, more_is other (rank y) own s.0))
    ]
    | inr t ↦ elim (taken other y) [
      | inl s ↦ absurd (omega (arith, less, t.1, s.1, high))
      | inr s ↦ absurd (omega (arith, less, t.1, s.1, high))
    ]
  ]
]

-- an even number is of one byte that ends a word
pub eighth_told : (more other : Bool) (x y : ℕ) → eighth more x ≡ eighth other y → eighth more x % 2 ≡ 0 → (x ≡ y) × ((more ≡ false) × (other ≡ false))
eighth_told more other x y e even = elim (taken more x) [
  | inl t ↦ elim (taken other y) [
    | inl s ↦
        let p = parts more (rank x) t.0 in
        let q = parts other (rank y) s.0 in
        (omega (arith, e, t.1, s.1, p.1.0, p.1.1), (p.0, q.0))
    | inr s ↦ absurd (omega (arith, e, t.1, s.1))
  ]
  | inr t ↦ absurd (omega (arith, even, t.1))
]

pub short_of : (a : List ℕ) → drop 7 a ≡ [] → length a ≤ 7
short_of a e = let n : length a - 7 ≡ 0 = sym (length-drop 7 a) ∙ ap (λ (l : List ℕ). length l) e in omega (arith, n)

pub long_of : (a : List ℕ) (x : ℕ) (xs : List ℕ) → drop 7 a ≡ x ∷ xs → 7 < length a
long_of a x xs e = let n : length a - 7 ≡ length xs + 1 = sym (length-drop 7 a) ∙ ap (λ (l : List ℕ). length l) e ∙ omega arith in omega (arith, n)

pub ending_small : (a r : List ℕ) → drop 7 a ≡ r → ending (length a) r < 256
ending_small a [] e = omega (arith, short_of a e)
ending_small a (x ∷ xs) e = (eighth_within (nat_lt 0 (length xs)) x).1

nothing : (xs : List ℕ) → nat_lt 0 (length xs) ≡ false → xs ≡ []
nothing [] e = refl
nothing (x ∷ xs) e = absurd (grind (arith, nat_tests))

something : (ys : List ℕ) → nat_lt 0 (length ys) ≡ true → slice_cmp nat_cmp [] ys ≡ Less
something [] e = absurd (grind (arith, nat_tests))
something (y ∷ ys) e = refl

-- bytes of which the first is smaller, or the same one and the only one
pub rest_before : (x y : ℕ) (xs ys : List ℕ) → (x < y) ⊎ ((x ≡ y) × ((nat_lt 0 (length xs) ≡ false) × (nat_lt 0 (length ys) ≡ true))) → slice_cmp nat_cmp (x ∷ xs) (y ∷ ys) ≡ Less
rest_before x y xs ys (inl low) =
    by_ranked (x < y) (x ≡ y) (y < x) (nat_cmp x y) (ranked x y (nat_cmp x y) refl)
    (λ o _. ap (λ p. ordering_then p (slice_cmp nat_cmp xs ys)) o)
    (λ o e. absurd (omega (arith, low, e)))
    (λ o high. absurd (omega (arith, low, high)))
rest_before x y xs ys (inr same) =
    ap (λ k. ordering_then (nat_cmp x k) (slice_cmp nat_cmp xs ys)) (sym same.0) ∙ ap (λ o. ordering_then o (slice_cmp nat_cmp xs ys)) (tied_itself nat_cmp_total x)
    ∙ ap (λ l. slice_cmp nat_cmp l ys) (nothing xs same.1.0) ∙ something ys same.1.1

pub rest_same : (x y : ℕ) (xs ys : List ℕ) → x ≡ y → nat_lt 0 (length xs) ≡ false → nat_lt 0 (length ys) ≡ false → x ∷ xs ≡ y ∷ ys
rest_same x y xs ys same none neither = ap (λ k. k ∷ xs) same ∙ ap (λ l. y ∷ l) (nothing xs none ∙ sym (nothing ys neither))

pub told_ending : (m e : ℕ) → e < 256 → tells (m * 256 + e) ≡ true → (e < 8) ⊎ (e % 2 ≡ 0)
told_ending m e small tell =
    elim (nat_lt ((m * 256 + e) % 256) 8) as (λ b. nat_lt ((m * 256 + e) % 256) 8 ≡ b → (b || ((m * 256 + e) % 2 == 0)) ≡ true → (e < 8) ⊎ (e % 2 ≡ 0)) [
      | true ↦ λ low _. let less : (m * 256 + e) % 256 < 8 = grind (arith, nat_tests) in inl (omega (arith, less, small))
      | false ↦ λ _ even. let none : (m * 256 + e) % 2 ≡ 0 = grind (arith, nat_tests) in inr (omega (arith, none))
    ] refl tell

at_front : (n : ℕ) (w : List ℕ) (x : ℕ) (xs : List ℕ) → drop n w ≡ x ∷ xs → slice_get w n ≡ Some x
at_front zero w x xs e = ap (λ (l : List ℕ). slice_get l 0) e
at_front (suc n) [] x xs e = absurd cc
at_front (suc n) (y ∷ ys) x xs e = at_front n ys x xs e

past : (w : List ℕ) → slice_get w 7 ≡ None → length w ≤ 7
past w none = elim ((slice_get_cases w 7).1) [
  | inl found ↦ absurd (clash (sym found.2 ∙ none))
  | inr late ↦ late.0
]
  where
    clash : {x : ℕ} → Some x ≡ None → ⊥
    clash e = cc

more_behind : (n k : ℕ) → n ≡ k + 8 → nat_lt 8 n ≡ nat_lt 0 k
more_behind n k e = grind (arith, nat_tests)

-- the ending that the code reads
pub ends : (w : List ℕ) → slice_get w 7 ≡ None → length w ≡ ending (length w) (drop 7 w)
ends w none =
    elim (drop 7 w) as (λ l. drop 7 w ≡ l → length w ≡ ending (length w) l) [
      | [] ↦ λ _. refl
      | x ∷ xs ↦ λ e. absurd (omega (arith, past w none, long_of w x xs e))
    ] refl

pub goes_on : (w : List ℕ) (byte r : ℕ) (more : Bool) → slice_get w 7 ≡ Some byte → r ≡ eighth more byte → more ≡ nat_lt 8 (length w) → r ≡ ending (length w) (drop 7 w)
goes_on w byte r more there is of =
    elim (drop 7 w) as (λ l. drop 7 w ≡ l → r ≡ ending (length w) l) [
      | [] ↦ λ e. absurd (omega (arith, short_of w e, slice_get_within w 7 byte there))
      | x ∷ xs ↦ λ e.
          let one : Some byte ≡ Some x = sym there ∙ at_front 7 w x xs e in
          let same : byte ≡ x = cc in
          let n : length w - 7 ≡ length xs + 1 = sym (length-drop 7 w) ∙ ap (λ (l : List ℕ). length l) e ∙ omega arith in
          is ∙ ap (eighth more) same ∙ ap (λ b. eighth b x) (of ∙ more_behind (length w) (length xs) (omega (arith, n)))
    ] refl
