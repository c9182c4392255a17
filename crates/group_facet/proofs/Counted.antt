-- The counts of a facet, with one row more and at the end.
use Rattle.std.proofs.Common.{◌≡◌, ℤ, List, [], ◌∷◌, All, map, refl, ap₂}
use Rattle.std.specs.Map.{keys_of}
use Rattle.std.proofs.lemmas.List.Elements.{All-head, All-tail}

-- where each value has what f gives for its key, the entries are the keys with these
pub entries_of : {X : Type 0} (f : ℤ → X) (es : List (ℤ × X)) → All (λ e. e.1 ≡ f e.0) es → es ≡ map (λ k. (k, f k)) (keys_of es)
entries_of f [] each = refl
entries_of f (e ∷ es) each =
    ap₂ ◌∷◌ (λ i. (e.0, All-head (λ (entry : ℤ × _). entry.1 ≡ f entry.0) e es each i)) (entries_of f es (All-tail (λ (entry : ℤ × _). entry.1 ≡ f entry.0) e es each))
