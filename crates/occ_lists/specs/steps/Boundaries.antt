-- the boundaries around an occurrence, and what begins between them
use Rattle.std.specs.Prelude.{ℕ, List, Option, Some, None, Bool, true, false, ◌&&◌, ◌||◌, ◌==◌, nat_lt, nat_le}
use Rattle.std.specs.List.{list_any}
use Rattle.occ_lists.specs.declared.occ.Occ.{Occ}

-- a boundary of the field lies strictly between the positions
abbrev pub has_between : List (ℕ × ℕ) → ℕ → ℕ → ℕ → Bool
has_between boundaries field from to = list_any (λ g. (g.0 == field) && (nat_lt from g.1 && nat_lt g.1 to)) boundaries

-- there is a position, and it comes before this one
abbrev pub comes_before : Option ℕ → ℕ → Bool
comes_before None limit = false
comes_before (Some position) limit = nat_lt position limit

-- not after the last position, where one is given
abbrev pub is_by : Option ℕ → ℕ → Bool
is_by None position = true
is_by (Some last) position = nat_le position last

-- of the field, begun at the first position or after it, and not after the last one where one is given
abbrev pub begins_within : ℕ → ℕ → Option ℕ → Occ → Bool
begins_within field first last o = (o.field == field) && (nat_le first o.first && is_by last o.first)

-- of an earlier field, or of this one and begun not after the last position, where one is given
abbrev pub begins_by : ℕ → Option ℕ → Occ → Bool
begins_by field last o = nat_lt o.field field || ((o.field == field) && is_by last o.first)
