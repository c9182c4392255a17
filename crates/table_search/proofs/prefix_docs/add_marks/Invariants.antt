use Rattle.std.proofs.Common.{◌≡◌, ◌+◌, take}
use Rattle.table_search.specs.steps.Counting.{living_marks}
use Rattle.table_search.proofs.prefix_docs.add_marks.Given as goal

abbrev pub invariant-loop-row : goal.invariant-loop-row
invariant-loop-row l = l.count ≡ l.docs + living_marks l.dead (take l.row l.marks)
