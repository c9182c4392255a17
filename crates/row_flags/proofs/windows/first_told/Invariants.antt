use Rattle.std.proofs.Common.{◌≡◌, map, take}
use Rattle.row_flags.specs.steps.Tallies.{first_told}
use Rattle.row_flags.proofs.windows.first_told.Given as goal

abbrev pub invariant-loop-found : goal.invariant-loop-found
invariant-loop-found l = l.told.items ≡ map (first_told l.by_fields) (take l.found-index l.flags)
