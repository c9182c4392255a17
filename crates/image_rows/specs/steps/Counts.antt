-- Numbers of hits.
use Rattle.std.specs.Prelude.{ℕ, ◌+◌, List, [], ◌∷◌, length}
use Rattle.chunk_damage.specs.WordLists.{Entry}

-- the sum over a list
abbrev pub total : {X : Type 0} → (X → ℕ) → List X → ℕ
total f [] = 0
total f (x ∷ xs) = f x + total f xs

-- how many hits a list has
abbrev pub hit_count : List Entry → ℕ
hit_count entries = total (λ entry. length entry.1) entries
