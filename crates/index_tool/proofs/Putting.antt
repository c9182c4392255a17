-- Lines that are put together of pieces.
use Rattle.std.proofs.Common.{◌≡◌, ℕ, List, ◌++◌, ap, ◌∙◌, append_assoc}

-- one piece more
pub one_more : (old s t a b : List ℕ) → s ≡ old ++ a → t ≡ s ++ b → t ≡ old ++ (a ++ b)
one_more old s t a b first second = second ∙ ap (λ (l : List ℕ). l ++ b) first ∙ append_assoc old a b

-- a piece that is said otherwise
pub said_as : (s t a b : List ℕ) → a ≡ b → t ≡ s ++ a → t ≡ s ++ b
said_as s t a b same is = is ∙ ap (λ (l : List ℕ). s ++ l) same
