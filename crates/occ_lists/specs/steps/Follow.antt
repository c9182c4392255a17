-- one position on, from keyword to keyword
use Rattle.std.specs.Prelude.{ℕ, ◌+◌, ◌-◌}
use Rattle.occ_lists.specs.declared.occ.Occ.{Occ}
use Rattle.occ_lists.specs.Places.{occ}

-- the place right after this one
abbrev pub next_place : ℕ × ℕ → ℕ × ℕ
next_place place = (place.0, place.1 + 1)

-- the occurrence that ends at a place, with so many positions before the last one
abbrev pub ending_at : ℕ → ℕ × ℕ → Occ
ending_at steps end = occ end.0 (end.1 - steps) end.1
