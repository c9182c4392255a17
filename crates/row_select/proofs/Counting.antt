-- How many elements of a list pass a test, where the test fails of all that come after one of which it fails.
use Rattle.std.proofs.Common.{◌≡◌, ℕ, zero, suc, ◌+◌, ◌≤◌, Bool, true, false, List, [], ◌∷◌, All, AllPairs, cond, length, take, refl, sym, ◌∙◌, ap, arith}
use mathlib.Core.Bool.{true≢false}
use Rattle.std.specs.List.{count_by}
use Rattle.std.proofs.lemmas.List.Elements.{All-nil, All-cons, All-head, All-tail, All-weaker}
use Rattle.std.proofs.lemmas.List.Sums.{count_by-le-length, sum_by-cons}
use Rattle.row_select.proofs.Sorting.{pairs_head, pairs_tail}

module _ {X : Type 0} (p : X → Bool) where
  -- where the test passes, it passed of each element before
  abbrev pub Falls : List X → Type 0
  Falls xs = AllPairs (λ x later. p later ≡ true → p x ≡ true) xs

  count_cons : (x : X) (xs : List X) (answer : Bool) → p x ≡ answer → count_by p (x ∷ xs) ≡ cond answer 1 0 + count_by p xs
  count_cons x xs answer is = sum_by-cons (λ y. cond (p y) 1 0) x xs ∙ ap (λ b. cond b 1 0 + count_by p xs) is

  pub count_none : (xs : List X) → All (λ x. p x ≡ false) xs → count_by p xs ≡ 0
  count_none [] none = refl
  count_none (x ∷ xs) none =
      count_cons x xs false (All-head (λ y. p y ≡ false) x xs none) ∙ omega (arith, count_none xs (All-tail (λ y. p y ≡ false) x xs none))

  pub count_all : (xs : List X) → All (λ x. p x ≡ true) xs → count_by p xs ≡ length xs
  count_all [] all = refl
  count_all (x ∷ xs) all =
      count_cons x xs true (All-head (λ y. p y ≡ true) x xs all) ∙ omega (arith, count_all xs (All-tail (λ y. p y ≡ true) x xs all))

  fails : (b c : Bool) → b ≡ false → (c ≡ true → b ≡ true) → c ≡ false
  fails b true is back = absurd (true≢false (sym (back refl) ∙ is))
  fails b false is back = refl

  more_pass : (count : ℕ) (x : X) (xs : List X) (answer : Bool) → p x ≡ answer → Falls (x ∷ xs) → suc count ≤ count_by p (x ∷ xs) → (count ≤ count_by p xs → count ≤ count_by p (take count xs))
      → suc count ≤ count_by p (x ∷ take count xs)
  more_pass count x xs true is falls many rest = omega (arith, rest (omega (arith, many, count_cons x xs true is)), count_cons x (take count xs) true is)
  more_pass count x xs false is falls many rest =
      let none : count_by p xs ≡ 0 = count_none xs
      (All-weaker (λ later. p later ≡ true → p x ≡ true) (λ later. p later ≡ false) (λ later back. fails (p x) (p later) is back) xs (pairs_head (λ y later. p later ≡ true → p y ≡ true) x xs falls)) in
      absurd (omega (arith, many, none, count_cons x xs false is))

  -- of a list that has so many that pass, the first are among them
  pub first_pass : (count : ℕ) (xs : List X) → Falls xs → count ≤ count_by p xs → count ≤ count_by p (take count xs)
  first_pass zero xs falls many = omega arith
  first_pass (suc count) [] falls many = absurd (omega (arith, many))
  first_pass (suc count) (x ∷ xs) falls many =
      more_pass count x xs (p x) refl falls many (first_pass count xs (pairs_tail (λ y later. p later ≡ true → p y ≡ true) x xs falls))

  more_all : (x : X) (xs : List X) (answer : Bool) → p x ≡ answer → length (x ∷ xs) ≤ count_by p (x ∷ xs) → (length xs ≤ count_by p xs → All (λ y. p y ≡ true) xs) → All (λ y. p y ≡ true) (x ∷ xs)
  more_all x xs true is many rest = All-cons (λ y. p y ≡ true) x xs is (rest (omega (arith, many, count_cons x xs true is)))
  more_all x xs false is many rest = absurd (omega (arith, many, count_by-le-length p xs, count_cons x xs false is))

  -- where as many pass as there are, all do
  pub all_pass : (xs : List X) → length xs ≤ count_by p xs → All (λ x. p x ≡ true) xs
  all_pass [] many = All-nil (λ x. p x ≡ true)
  all_pass (x ∷ xs) many = more_all x xs (p x) refl many (all_pass xs)
