-- Two lists of occurrences joined by an operator (the manual of Sphinx, "Extended query syntax"): from each pair that goes
-- together one occurrence is made. How NEAR measures a distance, and which pairs SENTENCE and PARAGRAPH take, is this project's
-- own reading.
use Rattle.std.specs.Prelude.{ℕ, ◌-◌, List, map, Bool, ◌&&◌, ◌||◌, ◌==◌, not, nat_lt, nat_le, min, max}
use Rattle.std.specs.List.{filter, flat_map, list_any}
use Rattle.occ_lists.specs.declared.occ.Occ.{Occ}
use Rattle.occ_lists.specs.Places.{occ}

-- an occurrence of the first list beside one of the second, for each pair that goes together
abbrev pub pairs : (Occ → Occ → Bool) → (Occ → Occ → Occ) → List Occ → List Occ → List Occ
pairs together make xs ys = flat_map (λ x. map (make x) (filter (together x) ys)) xs

-- both stand in one field
abbrev pub same_field : Occ → Occ → Bool
same_field x y = x.field == y.field

-- from the earlier beginning to the later end
abbrev pub hull : Occ → Occ → Occ
hull x y = occ x.field (min x.first y.first) (max x.last y.last)

-- the first ends before the second begins
abbrev pub ends_before : Occ → Occ → Bool
ends_before x y = nat_lt x.last y.first

-- `x << y`: in one field, x ends before y begins; from the beginning of x to the end of y
abbrev pub before : List Occ → List Occ → List Occ
before xs ys = pairs (λ x y. same_field x y && ends_before x y) (λ x y. occ x.field x.first y.last) xs ys

-- x ends before y begins, and y begins at most n positions after that
abbrev pub is_near : ℕ → Occ → Occ → Bool
is_near n x y = ends_before x y && nat_le (y.first - x.last) n

-- `x NEAR/n y`: in one field, without a position in common, the one near the other
abbrev pub near : ℕ → List Occ → List Occ → List Occ
near n xs ys = pairs (λ x y. same_field x y && (is_near n x y || is_near n y x)) hull xs ys

-- one of the boundaries, each a field and the position that it takes, lies strictly between the ends
abbrev pub crosses : List (ℕ × ℕ) → Occ → Bool
crosses boundaries o = list_any (λ g. (g.0 == o.field) && (nat_lt o.first g.1 && nat_lt g.1 o.last)) boundaries

-- `x SENTENCE y` and `x PARAGRAPH y`, by the boundaries of that kind: in one field, without a boundary inside their hull
abbrev pub together : List (ℕ × ℕ) → List Occ → List Occ → List Occ
together boundaries xs ys = pairs (λ x y. same_field x y && not (crosses boundaries (hull x y))) hull xs ys
