-- Different values.
use Rattle.std.specs.Prelude.{ℤ, List, [], ◌∷◌, not, filter}
use Rattle.std.specs.Ordering.{int_eq}

-- each value once, where it stands first
abbrev pub first_seen : List ℤ → List ℤ
first_seen [] = []
first_seen (value ∷ values) = value ∷ filter (λ later. not (int_eq value later)) (first_seen values)
