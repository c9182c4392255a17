-- Parts of lists in order, found by binary search: what passes one test and not yet another stands side by side.
use Rattle.std.proofs.Common.{◌≡◌, ℕ, zero, suc, ◌+◌, ◌-◌, ◌<◌, ◌≤◌, Bool, true, false, cond, List, [], ◌∷◌, length, take, drop, get_or, Option, Some, None, Bor, refl, sym, ◌∙◌, ap, arith, inl, inr}
use Rattle.std.specs.Prelude.{◌&&◌, ◌⊎◌, not, AllPairs, MatchOption}
use Rattle.std.specs.List.{filter, slice_range}
use Rattle.std.specs.List.Sorted.{IsPartitionPoint, IsPartitionedBy}
use Rattle.std.specs.Option.{unwrap_or}
use Rattle.std.proofs.lemmas.Bool.{cases_lt}

-- the test is passed by the first i elements and by no other
abbrev pub IsParted : {X : Type 0} → (X → Bool) → List X → ℕ → Type 0
IsParted p xs i = IsPartitionPoint (λ y. p y ≡ true) (λ y. p y ≡ false) xs i

-- in a list in order a test that holds of all before one that passes it
pub parted : {X : Type 0} (R : X → X → Type 0) (p : X → Bool) → ((x y : X) → R x y → p y ≡ true → p x ≡ true) → (xs : List X) → AllPairs R xs → IsPartitionedBy p xs
parted R p keeps xs pairs = λ i j d order within passed. elim (cases_lt i j) [
  | inl before ↦ keeps (get_or xs i d) (get_or xs j d) (pairs i j d before within) passed
  | inr after ↦ (let same : i ≡ j = omega arith in ap (λ k. p (get_or xs k d)) same ∙ passed)
]

cut_nil : {X : Type 0} (n from : ℕ) → take n (drop {A = X} from []) ≡ []
cut_nil zero zero = refl
cut_nil zero (suc from) = refl
cut_nil (suc n) zero = refl
cut_nil (suc n) (suc from) = refl

taken_none : {X : Type 0} (xs : List X) → take 0 xs ≡ []
taken_none xs = refl

-- the tests are alike: passed by what passes q and not yet p
module _ {X : Type 0} (p q t : X → Bool) (alike : (x : X) → t x ≡ (not (p x) && q x)) where
  kept : (x : X) (xs : List X) → p x ≡ false → q x ≡ true → filter t (x ∷ xs) ≡ x ∷ filter t xs
  kept x xs fails passes = ap (λ b. cond b (x ∷ filter t xs) (filter t xs)) (alike x ∙ ap (λ b. not b && q x) fails ∙ passes)

  left_early : (x : X) (xs : List X) → p x ≡ true → filter t (x ∷ xs) ≡ filter t xs
  left_early x xs passes = ap (λ b. cond b (x ∷ filter t xs) (filter t xs)) (alike x ∙ ap (λ b. not b && q x) passes)

  left_late : (x : X) (xs : List X) → p x ≡ false → q x ≡ false → filter t (x ∷ xs) ≡ filter t xs
  left_late x xs fails late = ap (λ b. cond b (x ∷ filter t xs) (filter t xs)) (alike x ∙ ap (λ b. not b && q x) fails ∙ late)

  cut_is : (xs : List X) (from to n : ℕ) → n ≡ to - from → IsParted p xs from → IsParted q xs to → filter t xs ≡ take n (drop from xs)
  cut_is [] from to n count low high = sym (cut_nil n from)
  cut_is (x ∷ xs) zero zero zero count low high =
      left_late x xs (low.1 0 x (omega arith) (omega arith)) (high.1 0 x (omega arith) (omega arith))
      ∙ cut_is xs zero zero zero count (λ k d a b. absurd (omega arith), λ k d a b. low.1 (suc k) d (omega arith) (omega arith)) (λ k d a b. absurd (omega arith), λ k d a b. high.1 (suc k) d (omega arith) (omega arith))
  cut_is (x ∷ xs) zero zero (suc n) count low high = absurd (omega arith)
  cut_is (x ∷ xs) zero (suc to) zero count low high = absurd (omega arith)
  cut_is (x ∷ xs) zero (suc to) (suc n) count low high =
      kept x xs (low.1 0 x (omega arith) (omega arith)) (high.0 0 x (omega arith) (omega arith))
      ∙ ap (λ rest. x ∷ rest) (cut_is xs zero to n (omega arith) (λ k d a b. absurd (omega arith), λ k d a b. low.1 (suc k) d (omega arith) (omega arith)) (λ k d a b. high.0 (suc k) d (omega arith) (omega arith), λ k d a b. high.1 (suc k) d (omega arith) (omega arith)))
  cut_is (x ∷ xs) (suc from) zero n count low high =
      left_early x xs (low.0 0 x (omega arith) (omega arith))
      ∙ cut_is xs from zero n (omega arith) (λ k d a b. low.0 (suc k) d (omega arith) (omega arith), λ k d a b. low.1 (suc k) d (omega arith) (omega arith)) (λ k d a b. absurd (omega arith), λ k d a b. high.1 (suc k) d (omega arith) (omega arith))
  cut_is (x ∷ xs) (suc from) (suc to) n count low high =
      left_early x xs (low.0 0 x (omega arith) (omega arith))
      ∙ cut_is xs from to n (omega arith) (λ k d a b. low.0 (suc k) d (omega arith) (omega arith), λ k d a b. low.1 (suc k) d (omega arith) (omega arith)) (λ k d a b. high.0 (suc k) d (omega arith) (omega arith), λ k d a b. high.1 (suc k) d (omega arith) (omega arith))

  -- `xs.get(from..to).unwrap_or(&[])` after two searches
  pub between_got : (xs : List X) (from to : ℕ) (got : Option (Bor (List X))) (other : Bor (List X)) → to ≤ length xs → other.now ≡ [] → MatchOption got ((to < from) ⊎ (length xs < to)) (λ part. (from ≤ to) × (to ≤ length xs) × (part.now ≡ slice_range xs from to) × (length part.now + from ≡ to)) → IsParted p xs from → IsParted q xs to → (unwrap_or got other).now ≡ filter t xs
  between_got xs from to None other within none outside low high =
      let nothing : 0 ≡ to - from = elim outside [ inl turned ↦ omega arith | inr past ↦ absurd (omega arith) ] in
      none ∙ sym (cut_is xs from to 0 nothing low high ∙ taken_none (drop from xs))
  between_got xs from to (Some part) other within none inside low high = inside.2 ∙ sym (cut_is xs from to (to - from) refl low high)
