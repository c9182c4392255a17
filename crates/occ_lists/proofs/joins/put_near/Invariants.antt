use Rattle.std.proofs.Common.{◌≡◌, ◌++◌, take}
use Rattle.occ_lists.specs.Joined.{hull, pairs}
use Rattle.occ_lists.specs.steps.Beside.{goes_soon}
use Rattle.occ_lists.proofs.joins.put_near.Given as goal

abbrev pub invariant-loop-x : goal.invariant-loop-x
invariant-loop-x l = l.out.items ≡ l.fn.out.items ++ pairs (goes_soon l.n) hull (take l.x-index l.xs) l.ys

abbrev pub invariant-loop-y : goal.invariant-loop-y
invariant-loop-y l = l.out.items ≡ (l.fn.out.items ++ pairs (goes_soon l.n) hull l.xs l.ys) ++ pairs (goes_soon l.n) hull (take l.y-index l.ys) l.xs
