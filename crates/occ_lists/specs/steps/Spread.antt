-- lists of occurrences of which each reaches as far as those before it
use Rattle.std.specs.Prelude.{◌≡◌, ◌≤◌, List, [], ◌∷◌, AllPairs, max, if◌then◌else◌, ◌==◌}
use Rattle.occ_lists.specs.declared.occ.Occ.{Occ}
use Rattle.occ_lists.specs.Places.{occ}

-- they ascend by field and first position, and within a field none ends before one that comes earlier
pub record Spreads (o later : Occ) : Type 0 where
  pub fields : o.field ≤ later.field
  pub firsts : o.field ≡ later.field → o.first ≤ later.first
  pub lasts : o.field ≡ later.field → o.last ≤ later.last

abbrev pub IsSpread : List Occ → Type 0
IsSpread occs = AllPairs Spreads occs

-- a later one, made to reach as far as the one before it where that stands in its field
abbrev pub reaching : Occ → Occ → Occ
reaching before o = occ o.field o.first (if o.field == before.field then max before.last o.last else o.last)

-- those after one, each of which reaches as far as the one before it
abbrev pub spread_after : Occ → List Occ → List Occ
spread_after before [] = []
spread_after before (o ∷ rest) = reaching before o ∷ spread_after (reaching before o) rest

abbrev pub spread_all : List Occ → List Occ
spread_all [] = []
spread_all (o ∷ rest) = o ∷ spread_after o rest
