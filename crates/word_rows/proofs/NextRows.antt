-- The next row that has a word, from a row on.
use Rattle.std.proofs.Common.{◌≡◌, ℕ, ◌+◌, ◌<◌, ◌≤◌, zero, suc, Bool, true, false, cond, List, [], ◌∷◌, map, Option, Some, slice_get, refl, ap, ◌∙◌, arith}
use Rattle.std.specs.Prelude.{All, ◌==◌, nat_le}
use Rattle.std.specs.List.{filter, enumerate_from}
use Rattle.std.specs.Option.{option_map_or}
use Rattle.std.proofs.lemmas.Bool.{le-leb, lt-leb, eq-eqb, ne_eqb}
use Rattle.std.proofs.lemmas.List.Elements.{All-nil, All-cons, All-head, All-weaker}

module _ {X : Type 0} (p : X → Bool) where
  abbrev pub numbers : ℕ → List X → List ℕ
  numbers n xs = map (λ e. e.0) (filter (λ e. p e.1) (enumerate_from n xs))

  abbrev with_first : Bool → ℕ → X → List X → List ℕ
  with_first b n x xs = map (λ e. e.0) (cond b ((n, x) ∷ filter (λ e. p e.1) (enumerate_from (n + 1) xs)) (filter (λ e. p e.1) (enumerate_from (n + 1) xs)))

  above_first : (b : Bool) (n : ℕ) (x : X) (xs : List X) → All (λ m. n ≤ m) (numbers (n + 1) xs) → All (λ m. n ≤ m) (with_first b n x xs)
  above_first true n x xs rest = All-cons (λ m. n ≤ m) n (numbers (n + 1) xs) (omega arith) rest
  above_first false n x xs rest = rest

  pub numbers_above : (n : ℕ) (xs : List X) → All (λ m. n ≤ m) (numbers n xs)
  numbers_above n [] = All-nil (λ m. n ≤ m)
  numbers_above n (x ∷ xs) = above_first (p x) n x xs (All-weaker (λ m. n + 1 ≤ m) (λ m. n ≤ m) (λ m above. omega (arith, above)) (numbers (n + 1) xs) (numbers_above (n + 1) xs))

abbrev pub first_from : ℕ → List ℕ → Option ℕ
first_from from ms = slice_get (filter (nat_le from) ms) 0

-- a number that is too low isn't the first
skips : (from n : ℕ) (ms : List ℕ) → n < from → first_from from (n ∷ ms) ≡ first_from from ms
skips from n ms low = let fails : nat_le from n ≡ false = lt-leb from n low in rw fails refl

takes : (from n : ℕ) (ms : List ℕ) → from ≤ n → first_from from (n ∷ ms) ≡ Some n
takes from n ms high = let passes : nat_le from n ≡ true = le-leb from n high in rw passes refl

abbrev pub is_it : ℕ → Option ℕ → Bool
is_it row next = option_map_or (λ n. n == row) next false

not_later : (row : ℕ) (ms : List ℕ) → All (λ m. row < m) ms → is_it row (first_from row ms) ≡ false
not_later row [] above = refl
not_later row (m ∷ ms) above =
    let high : row < m = All-head (λ m. row < m) m ms above in
    let differs : (m == row) ≡ false = ne_eqb m row (λ e. absurd (omega (arith, e))) in
    ap (is_it row) (takes row m ms (omega (arith, high))) ∙ differs

module _ {X : Type 0} (p : X → Bool) where
  here : (b : Bool) (n : ℕ) (x : X) (xs : List X) → is_it n (first_from n (with_first p b n x xs)) ≡ b
  here true n x xs = ap (is_it n) (takes n n (numbers p (n + 1) xs) (omega arith)) ∙ eq-eqb n n refl
  here false n x xs = not_later n (numbers p (n + 1) xs) (All-weaker (λ m. n + 1 ≤ m) (λ m. n < m) (λ m above. omega (arith, above)) (numbers p (n + 1) xs) (numbers_above p (n + 1) xs))

  later : (b : Bool) (n from : ℕ) (x : X) (xs : List X) → n < from → first_from from (with_first p b n x xs) ≡ first_from from (numbers p (n + 1) xs)
  later true n from x xs low = skips from n (numbers p (n + 1) xs) low
  later false n from x xs low = refl

  -- a number is the first from itself on where its element passes
  pub is_first_at : (n row k : ℕ) (xs : List X) (x : X) → row ≡ n + k → slice_get xs k ≡ Some x → is_it row (first_from row (numbers p n xs)) ≡ p x
  is_first_at n row k [] x e at = cc
  is_first_at n row zero (y ∷ xs) x e at =
      let same : y ≡ x = cc in
      let it : row ≡ n = omega (arith, e) in
      ap (λ r. is_it r (first_from r (numbers p n (y ∷ xs)))) it ∙ here (p y) n y xs ∙ ap p same
  is_first_at n row (suc k) (y ∷ xs) x e at = ap (is_it row) (later (p y) n row y xs (omega (arith, e))) ∙ is_first_at (n + 1) row k xs x (omega (arith, e)) at
