-- Lists of occurrences: as sets, and in order.
use Rattle.std.specs.Prelude.{◌≡◌, List, Bool, ◌&&◌, ◌||◌, ◌==◌, nat_lt, IsTrue, AllPairs}
use Rattle.std.specs.List.{list_any}
use Rattle.occ_lists.specs.declared.occ.Occ.{Occ}

-- The lists have the same members: a test is passed by some member of one exactly where some member of the other passes it.
abbrev pub SameMembers : {X : Type 0} → List X → List X → Type 0
SameMembers {X} xs ys = (passes : X → Bool) → list_any passes xs ≡ list_any passes ys

-- the one comes before the other: by field, then by first position, then by last
abbrev pub precedes : Occ → Occ → Bool
precedes o later =
    nat_lt o.field later.field
    || ((o.field == later.field) && (nat_lt o.first later.first || ((o.first == later.first) && nat_lt o.last later.last)))

-- they ascend, each once
abbrev pub Ascend : List Occ → Type 0
Ascend occs = AllPairs (λ o later. IsTrue (precedes o later)) occs
