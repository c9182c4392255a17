use Rattle.std.proofs.Common.{◌≡◌, take}
use Rattle.std.specs.List.{filter}
use Rattle.occ_lists.specs.Places.{ArePlaces, within_all}
use Rattle.occ_lists.proofs.places.within.Given as goal

-- what is left lies inside each span so far
abbrev pub invariant-loop-span : goal.invariant-loop-span
invariant-loop-span l = ArePlaces l.rest × (l.rest ≡ filter (within_all (take l.span-index l.spans)) l.places)
