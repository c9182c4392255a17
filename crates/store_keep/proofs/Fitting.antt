-- Loops that look at each element of a list.
use Rattle.std.proofs.Common.{◌≡◌, ℕ, zero, suc, ◌+◌, ◌<◌, List, [], ◌∷◌, length, get_or, refl, subst, arith, below_more}

same_at : {X : Type 0} (xs : List X) (i : ℕ) (x d : X) → i < length xs → get_or xs i x ≡ get_or xs i d
same_at [] i x d h = absurd (omega (arith, h))
same_at (y ∷ ys) zero x d h = refl
same_at (y ∷ ys) (suc i) x d h = same_at ys i x d (omega (arith, h))

-- one more
pub all_more : {X : Type 0} (P : X → Type 0) (xs : List X) (i : ℕ) (x : X) → i < length xs → P (get_or xs i x) → ((d : X) (k : ℕ) → k < i → P (get_or xs k d)) → (d : X) (k : ℕ) → k < i + 1 → P (get_or xs k d)
all_more P xs i x h here before d = below_more _ _ (λ k l. before d k l) (subst P (same_at xs i x d h) here)
