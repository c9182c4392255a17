use Rattle.std.proofs.Common.{◌≡◌, ◌++◌, map, take}
use Rattle.occ_lists.specs.steps.Beside.{from_to}
use Rattle.occ_lists.proofs.joins.put_after.Given as goal

abbrev pub invariant-loop-y : goal.invariant-loop-y
invariant-loop-y l = l.out.items ≡ l.fn.out.items ++ map (from_to l.x) (take l.y-index l.y-items)
