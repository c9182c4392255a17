use Rattle.std.proofs.Common.{length}
use Rattle.query_read.proofs.OrderSteps.{LimitsRead}
use Rattle.query_read.proofs.reader.limits.Given as goal

abbrev pub invariant-limits : goal.invariant-limits
invariant-limits l = LimitsRead l.fn.input l.span l.input

abbrev pub decreases-limits : goal.decreases-limits
decreases-limits l = length l.input
