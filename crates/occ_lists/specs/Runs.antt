-- Keywords one after the other, as a phrase asks for them.
use Rattle.std.specs.Prelude.{ℕ, ◌+◌, List, [], ◌∷◌, map, length, Bool, true, ◌&&◌}
use Rattle.std.specs.List.{filter}
use Rattle.occ_lists.specs.declared.occ.Occ.{Occ}
use Rattle.occ_lists.specs.Places.{occ, has_place}

-- each of these keywords, by its places, stands right after the one before; the first right after this place
abbrev pub follow : ℕ × ℕ → List (List (ℕ × ℕ)) → Bool
follow place [] = true
follow place (next ∷ rest) = has_place next (place.0, place.1 + 1) && follow (place.0, place.1 + 1) rest

-- The runs of keywords, by their places: from each place of the first after which the others follow. None without a keyword.
abbrev pub runs : List (List (ℕ × ℕ)) → List Occ
runs [] = []
runs (first ∷ rest) = map (λ p. occ p.0 p.1 (p.1 + length rest)) (filter (λ p. follow p rest) first)
