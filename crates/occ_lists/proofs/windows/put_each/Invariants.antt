use Rattle.std.proofs.Common.{◌≡◌, ◌++◌, take}
use Rattle.occ_lists.specs.steps.Ends.{to_each}
use Rattle.occ_lists.proofs.windows.put_each.Given as goal

abbrev pub invariant-loop-to : goal.invariant-loop-to
invariant-loop-to l = l.out.items ≡ l.fn.out.items ++ to_each l.from (take l.to-index l.ends)
