use Rattle.std.proofs.Common.{◌≡◌, ◌++◌, take}
use Rattle.occ_lists.specs.Joined.{before}
use Rattle.occ_lists.proofs.joins.put_before.Given as goal

abbrev pub invariant-loop-x : goal.invariant-loop-x
invariant-loop-x l = l.out.items ≡ l.fn.out.items ++ before (take l.x-index l.xs) l.ys
