-- How many elements of a list pass a test.
use Rattle.std.proofs.Common.{◌≡◌, ℕ, ◌+◌, suc, zero, Bool, true, false, ◌&&◌, ◌||◌, cond, List, [], ◌∷◌, Option, Some, None, refl, sym, ap, ◌∙◌, arith, All, AllPairs, slice_get, count_by, nat_le}
use Rattle.std.specs.List.{filter, list_any}
use Rattle.std.proofs.lemmas.Bool.{le-leb, lt-leb, false_from_ne_true, both_ways, true≢false}
use Rattle.std.proofs.lemmas.Bool.Decides.{nat_tests}
use Rattle.std.proofs.lemmas.List.Sums.{sum_by-cons}

pub count_cons : {X : Type 0} (p : X → Bool) (x : X) (xs : List X) → count_by p (x ∷ xs) ≡ cond (p x) 1 0 + count_by p xs
count_cons p x xs = sum_by-cons (λ y. cond (p y) 1 0) x xs

-- tests that agree count alike
pub count_agree : {X : Type 0} (p q : X → Bool) → ((x : X) → p x ≡ q x) → (xs : List X) → count_by p xs ≡ count_by q xs
count_agree p q e xs = let same : p ≡ q = λ i x. e x i in ap (λ t. count_by t xs) same

-- the counts of two tests that no element passes both
either_one : (a b : Bool) (m n : ℕ) → (a && b) ≡ false → cond (a || b) 1 0 + (m + n) ≡ (cond a 1 0 + m) + (cond b 1 0 + n)
either_one true true m n e = absurd (true≢false e)
either_one true false m n e = omega arith
either_one false true m n e = omega arith
either_one false false m n e = omega arith

pub count_either : {X : Type 0} (p q : X → Bool) → ((x : X) → (p x && q x) ≡ false) → (xs : List X) → count_by (λ x. p x || q x) xs ≡ count_by p xs + count_by q xs
count_either p q apart [] = refl
count_either p q apart (x ∷ xs) =
    count_cons (λ y. p y || q y) x xs
    ∙ ap (λ n. cond (p x || q x) 1 0 + n) (count_either p q apart xs)
    ∙ either_one (p x) (q x) (count_by p xs) (count_by q xs) (apart x)
    ∙ sym (ap (λ n. n + count_by q (x ∷ xs)) (count_cons p x xs) ∙ ap (λ n. (cond (p x) 1 0 + count_by p xs) + n) (count_cons q x xs))

-- what a filter leaves of a count
pub count_filter : {X : Type 0} (p q : X → Bool) (xs : List X) → count_by p (filter q xs) ≡ count_by (λ x. q x && p x) xs
count_filter p q [] = refl
count_filter p q (x ∷ xs) =
    elim (q x) as (λ b. count_by p (cond b (x ∷ filter q xs) (filter q xs)) ≡ cond (b && p x) 1 0 + count_by (λ y. q y && p y) xs) [
      | true ↦ count_cons p x (filter q xs) ∙ ap (λ n. cond (p x) 1 0 + n) (count_filter p q xs)
      | false ↦ count_filter p q xs ∙ omega arith
    ]
    ∙ sym (count_cons (λ y. q y && p y) x xs)

none_more : (b : Bool) (n : ℕ) → b ≡ false → n ≡ 0 → cond b 1 0 + n ≡ 0
none_more true n e z = absurd (true≢false e)
none_more false n e z = omega (arith, z)

pub count_none : {X : Type 0} (p : X → Bool) (xs : List X) → All (λ x. p x ≡ false) xs → count_by p xs ≡ 0
count_none p [] none = refl
count_none p (x ∷ xs) none = count_cons p x xs ∙ none_more (p x) (count_by p xs) (none 0 x (omega arith)) (count_none p xs (λ k d h. none (suc k) d (omega arith)))

pairs_tail : {X : Type 0} (R : X → X → Type 0) (x : X) (xs : List X) → AllPairs R (x ∷ xs) → AllPairs R xs
pairs_tail R x xs all i j d lt h = all (suc i) (suc j) d (omega arith) (omega arith)

pairs_head : {X : Type 0} (R : X → X → Type 0) (x : X) (xs : List X) → AllPairs R (x ∷ xs) → All (R x) xs
pairs_head R x xs all k d h = all 0 (suc k) d (omega arith) (omega arith)

-- Where at most one element passes, the count says whether one does.
pub count_single : {X : Type 0} (p : X → Bool) (xs : List X) → AllPairs (λ x y. p x ≡ true → p y ≡ false) xs → count_by p xs ≡ cond (list_any p xs) 1 0
count_single p [] once = refl
count_single p (x ∷ xs) once =
    count_cons p x xs
    ∙ elim (p x) as (λ b. (b ≡ true → count_by p xs ≡ 0) → cond b 1 0 + count_by p xs ≡ cond (b || list_any p xs) 1 0) [
      | true ↦ λ none. ap (λ n. 1 + n) (none refl)
      | false ↦ λ none. omega (arith, count_single p xs (pairs_tail (λ y z. p y ≡ true → p z ≡ false) x xs once))
    ] (λ e. count_none p xs (λ k d h. pairs_head (λ y z. p y ≡ true → p z ≡ false) x xs once k d h e))

abbrev pub some_passes : {X : Type 0} → (X → Bool) → Option X → Bool
some_passes p None = false
some_passes p (Some x) = p x

none_there : {X : Type 0} (p : X → Bool) (xs : List X) (n : ℕ) → All (λ x. p x ≡ false) xs → some_passes p (slice_get xs n) ≡ false
none_there p [] n none = refl
none_there p (x ∷ xs) zero none = none 0 x (omega arith)
none_there p (x ∷ xs) (suc n) none = none_there p xs n (λ k d h. none (suc k) d (omega arith))

-- the later elements fail where the first one does
rest_fails : {X : Type 0} (p : X → Bool) (x : X) (xs : List X) → AllPairs (λ y z. p z ≡ true → p y ≡ true) (x ∷ xs) → p x ≡ false → All (λ y. p y ≡ false) xs
rest_fails p x xs front e k d h = false_from_ne_true _ (λ t. both_ways (p x) e (pairs_head (λ y z. p z ≡ true → p y ≡ true) x xs front k d h t))

one_more : (n m : ℕ) → nat_le (suc (suc n)) (1 + m) ≡ nat_le (suc n) m
one_more n m = grind (arith, nat_tests)

some_one : (m : ℕ) → nat_le 1 (1 + m) ≡ true
some_one m = le-leb 1 (1 + m) (omega arith)

none_of : (n m : ℕ) → m ≡ 0 → nat_le (suc n) (0 + m) ≡ false
none_of n m e = lt-leb (suc n) (0 + m) (omega (arith, e))

-- Where those that pass stand at the front, more than n pass exactly where the one at place n does.
pub nth_passes : {X : Type 0} (p : X → Bool) (xs : List X) (n : ℕ) → AllPairs (λ x y. p y ≡ true → p x ≡ true) xs → nat_le (suc n) (count_by p xs) ≡ some_passes p (slice_get xs n)
nth_passes p [] n front = lt-leb (suc n) 0 (omega arith)
nth_passes p (x ∷ xs) zero front =
    ap (nat_le 1) (count_cons p x xs)
    ∙ elim (p x) as (λ b. p x ≡ b → nat_le 1 (cond b 1 0 + count_by p xs) ≡ b) [
      | true ↦ λ e. some_one (count_by p xs)
      | false ↦ λ e. none_of 0 (count_by p xs) (count_none p xs (rest_fails p x xs front e))
    ] refl
nth_passes p (x ∷ xs) (suc n) front =
    ap (nat_le (suc (suc n))) (count_cons p x xs)
    ∙ elim (p x) as (λ b. p x ≡ b → nat_le (suc (suc n)) (cond b 1 0 + count_by p xs) ≡ some_passes p (slice_get xs n)) [
      | true ↦ λ e. one_more n (count_by p xs) ∙ nth_passes p xs n (pairs_tail (λ y z. p z ≡ true → p y ≡ true) x xs front)
      | false ↦ λ e. none_of (suc n) (count_by p xs) (count_none p xs (rest_fails p x xs front e)) ∙ sym (none_there p xs n (rest_fails p x xs front e))
    ] refl
