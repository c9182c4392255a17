-- Tokens whose workers differ.
use native.Mathlib.Omega.{arith}
use Rattle.std.proofs.Common.{◌≡◌, ◌==◌, ℕ, false, List, [], ◌∷◌, length, map}
use Rattle.std.specs.List.{AllByRecursion, IsDistinct}
use Rattle.std.proofs.lemmas.Map.Keys.{IsDistinct-cons}
use Rattle.snap_share.specs.Closings.{WorkersDiffer}
use Rattle.snap_share.specs.Tokens.{TokenValue}

pub none_differ : (tokens : List TokenValue) → length tokens ≡ 0 → WorkersDiffer tokens
unfolding IsDistinct
none_differ [] is = tt
none_differ (token ∷ tokens) is = absurd (omega (arith, is))

pub one_more_differs : (token : TokenValue) (tokens : List TokenValue) → AllByRecursion (λ (worker : ℕ). (token.worker == worker) ≡ false) (map (λ (other : TokenValue). other.worker) tokens) → WorkersDiffer tokens → WorkersDiffer (token ∷ tokens)
one_more_differs token tokens apart differ = IsDistinct-cons (λ (one other : ℕ). one == other) token.worker (map (λ (other : TokenValue). other.worker) tokens) apart differ
