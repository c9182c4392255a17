use Rattle.rankers.proofs.Runs.{AreSummed}
use Rattle.rankers.proofs.weighing.sum_in_order.Given as goal

abbrev pub invariant-loop-field : goal.invariant-loop-field
invariant-loop-field l = AreSummed l.ranker l.most l.weights l.hits l.rest l.field l.sum
