use Rattle.std.proofs.Common.{◌≡◌, ◌++◌, map, take}
use Rattle.occ_lists.specs.Joined.{hull}
use Rattle.occ_lists.proofs.joins.put_soon.Given as goal

abbrev pub invariant-loop-y : goal.invariant-loop-y
invariant-loop-y l = l.out.items ≡ l.fn.out.items ++ map (hull l.x) (take l.y-index l.y-items)
