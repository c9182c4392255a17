use Rattle.std.proofs.Common.{◌≡◌, ◌++◌, map, take}
use Rattle.std.specs.Prelude.{not}
use Rattle.std.specs.List.{filter}
use Rattle.occ_lists.specs.Joined.{crosses, hull}
use Rattle.occ_lists.proofs.joins.put_beside.Given as goal

abbrev pub invariant-loop-y : goal.invariant-loop-y
invariant-loop-y l = l.out.items ≡ l.fn.out.items ++ map (hull l.x) (filter (λ y. not (crosses l.boundaries (hull l.x y))) (take l.y-index l.y-items))
