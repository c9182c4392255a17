-- one occurrence joined with a list
use Rattle.std.specs.Prelude.{ℕ, List, map, Bool, ◌&&◌, not}
use Rattle.std.specs.List.{filter}
use Rattle.occ_lists.specs.declared.occ.Occ.{Occ}
use Rattle.occ_lists.specs.Places.{occ}
use Rattle.occ_lists.specs.Joined.{same_field, ends_before, is_near, crosses, hull}

-- what is made of each pair of x and one of the list that goes with it
abbrev pub beside : (Occ → Occ → Bool) → (Occ → Occ → Occ) → Occ → List Occ → List Occ
beside goes make x ys = map (make x) (filter (goes x) ys)

-- in one field, x ends before y begins
abbrev pub goes_before : Occ → Occ → Bool
goes_before x y = same_field x y && ends_before x y

-- from the beginning of x to the end of y
abbrev pub from_to : Occ → Occ → Occ
from_to x y = occ x.field x.first y.last

-- in one field, x ends before y begins, at most n positions before it
abbrev pub goes_soon : ℕ → Occ → Occ → Bool
goes_soon n x y = same_field x y && is_near n x y

-- in one field, without a boundary inside their hull
abbrev pub goes_together : List (ℕ × ℕ) → Occ → Occ → Bool
goes_together boundaries x y = same_field x y && not (crosses boundaries (hull x y))
