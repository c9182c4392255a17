-- The first element of a list that passes a test.
use Rattle.std.proofs.Common.{◌≡◌, inl, inr, ℕ, zero, suc, ◌+◌, ◌<◌, ◌≤◌, List, [], ◌∷◌, Bool, true, false, cond, Some, None, length, get_or, refl, ◌∙◌, ap, arith}
use Rattle.std.specs.List.{position, position_from}
use Rattle.std.proofs.lemmas.Bool.{cases_lt}
use Rattle.std.proofs.lemmas.List.{get_or_default}
use Rattle.std.proofs.lemmas.Iterator.Adapters.{position_from-zero}

-- none of so many elements passes
abbrev pub NonePass : {X : Type 0} → (X → Bool) → ℕ → List X → Type 0
NonePass {X} p n xs = (k : ℕ) (d : X) → k < n → k < length xs → p (get_or xs k d) ≡ false

first_from : {X : Type 0} (p : X → Bool) (n i : ℕ) (xs : List X) (d : X) → NonePass p i xs → i < length xs → p (get_or xs i d) ≡ true → position_from p n xs ≡ Some (n + i)
first_from p n i [] d none lt is = absurd (omega (arith, lt))
first_from p n zero (x ∷ xs) d none lt is = ap (λ (b : Bool). cond b (Some n) (position_from p (n + 1) xs)) is ∙ ap Some (omega arith)
first_from p n (suc i) (x ∷ xs) d none lt is =
    ap (λ (b : Bool). cond b (Some n) (position_from p (n + 1) xs)) (none 0 d (omega arith) (omega arith))
    ∙ first_from p (n + 1) i xs d (λ k e below low. none (suc k) e (omega (arith, below)) (omega (arith, low))) (omega (arith, lt)) is ∙ ap Some (omega arith)

none_from : {X : Type 0} (p : X → Bool) (n i : ℕ) (xs : List X) → NonePass p i xs → length xs ≤ i → position_from p n xs ≡ None
none_from p n i [] none le = refl
none_from p n zero (x ∷ xs) none le = absurd (omega (arith, le))
none_from p n (suc i) (x ∷ xs) none le =
    ap (λ (b : Bool). cond b (Some n) (position_from p (n + 1) xs)) (none 0 x (omega arith) (omega arith))
    ∙ none_from p (n + 1) i xs (λ k e below low. none (suc k) e (omega (arith, below)) (omega (arith, low))) (omega (arith, le))

pub first_found : {X : Type 0} (p : X → Bool) (i : ℕ) (xs : List X) (d : X) → NonePass p i xs → i < length xs → p (get_or xs i d) ≡ true → position p xs ≡ Some i
first_found p i xs d none lt is = position_from-zero p xs ∙ first_from p 0 i xs d none lt is ∙ ap Some (omega arith)

pub none_found : {X : Type 0} (p : X → Bool) (i : ℕ) (xs : List X) → NonePass p i xs → length xs ≤ i → position p xs ≡ None
none_found p i xs none le = position_from-zero p xs ∙ none_from p 0 i xs none le

-- one more that doesn't
pub none_more : {X : Type 0} (p : X → Bool) (i : ℕ) (xs : List X) (e : X) → NonePass p i xs → p (get_or xs i e) ≡ false → NonePass p (i + 1) xs
none_more p i xs e none here k d below low = elim (cases_lt k i) [
  | inl lt ↦ none k d lt low
  | inr le ↦ let at : k ≡ i = omega (arith, le, below) in ap (λ (n : ℕ). p (get_or xs n d)) at ∙ ap p (get_or_default xs i d e (omega (arith, low, at))) ∙ here
]
