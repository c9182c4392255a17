use Rattle.std.proofs.Common.{◌≡◌, ◌++◌, map, take}
use Rattle.occ_lists.specs.steps.Follow.{ending_at}
use Rattle.occ_lists.proofs.runs.put_ending.Given as goal

abbrev pub invariant-loop-end : goal.invariant-loop-end
invariant-loop-end l = l.out.items ≡ l.initial.out.items ++ map (ending_at l.steps) (take l.end-index l.ends)
