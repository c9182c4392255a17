-- The lengths of pieces stay above 0 as one of them shrinks.
use Rattle.std.proofs.Common.{ℕ, zero, suc, ◌<◌, List, [], ◌∷◌, drop}
use Rattle.std.proofs.Math.ListN.{set}
use Rattle.std.specs.List.{All}
use Rattle.std.proofs.lemmas.List.Elements.{All-cons, All-tail}

abbrev pub Positive : List ℕ → Type 0
Positive = All (λ piece. 0 < piece)

pub positive_shrunk : (xs : List ℕ) (i v : ℕ) → 0 < v → Positive (drop i xs) → Positive (drop i (set xs i v))
positive_shrunk [] zero v h a = a
positive_shrunk [] (suc i) v h a = a
positive_shrunk (x ∷ xs) zero v h a = All-cons (λ piece. 0 < piece) v xs h (All-tail (λ piece. 0 < piece) x xs a)
positive_shrunk (x ∷ xs) (suc i) v h a = positive_shrunk xs i v h a

pub positive_passed : (xs : List ℕ) (i v : ℕ) → Positive (drop i xs) → Positive (drop (suc i) (set xs i v))
positive_passed [] zero v a = a
positive_passed [] (suc i) v a = a
positive_passed (x ∷ xs) zero v a = All-tail (λ piece. 0 < piece) x xs a
positive_passed (x ∷ xs) (suc i) v a = positive_passed xs i v a
