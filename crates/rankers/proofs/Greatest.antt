-- The greatest of some numbers.
use Rattle.std.proofs.Common.{◌≡◌, ℕ, zero, suc, ◌<◌, ◌≤◌, ◌⊎◌, inl, inr, List, [], ◌∷◌, ◌++◌, map, max, length, get_or, refl, arith}
use Rattle.std.specs.List.{All}
use Rattle.std.proofs.lemmas.Bool.{cases_lt}
use Rattle.std.proofs.lemmas.List.Elements.{All-head, All-tail}
use Rattle.rankers.specs.Weight.{greatest}

-- each of them is at most the greatest
pub le_greatest : {X : Type 0} (f : X → ℕ) (xs : List X) (k : ℕ) (d : X) → k < length xs → f (get_or xs k d) ≤ greatest (map f xs)
le_greatest f [] k d h = absurd (omega arith)
le_greatest f (x ∷ xs) zero d h = omega arith
le_greatest f (x ∷ xs) (suc k) d h = let rest = le_greatest f xs k d (omega arith) in omega arith

-- it is one of them, or 0
pub greatest_met : {X : Type 0} (P : X → Type 0) (f : X → ℕ) (xs : List X) → All P xs → (greatest (map f xs) ≡ 0) ⊎ ((x : X) × P x × (greatest (map f xs) ≡ f x))
greatest_met P f [] h = inl refl
greatest_met P f (x ∷ xs) h =
    elim (cases_lt (f x) (greatest (map f xs))) [
      | inl less ↦ elim (greatest_met P f xs (All-tail P x xs h)) [
        | inl none ↦ absurd (omega arith)
        | inr met ↦ inr (met.0, met.1, (let is = met.2 in omega arith))
      ]
      | inr more ↦ inr (x, All-head P x xs h, omega arith)
    ]

-- with one number more
pub greatest_push : (numbers : List ℕ) (number : ℕ) → greatest (numbers ++ number ∷ []) ≡ max (greatest numbers) number
greatest_push [] number = omega arith
greatest_push (n ∷ ns) number = let rest = greatest_push ns number in omega arith
