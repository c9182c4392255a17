use Rattle.std.proofs.Common.{◌≡◌, ◌++◌, take}
use Rattle.occ_lists.specs.Joined.{together}
use Rattle.occ_lists.proofs.joins.put_together.Given as goal

abbrev pub invariant-loop-x : goal.invariant-loop-x
invariant-loop-x l = l.out.items ≡ l.fn.out.items ++ together l.boundaries (take l.x-index l.xs) l.ys
