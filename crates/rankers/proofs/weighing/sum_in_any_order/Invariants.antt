use Rattle.rankers.specs.steps.FieldValue.{field_value}
use Rattle.rankers.proofs.FieldValues.{IsSummed}
use Rattle.rankers.proofs.weighing.sum_in_any_order.Given as goal

abbrev pub invariant-loop-field : goal.invariant-loop-field
invariant-loop-field l = IsSummed (λ number weight. field_value l.ranker l.most number weight l.hits) l.weights l.field l.sum
