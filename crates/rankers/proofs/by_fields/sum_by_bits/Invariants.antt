use Rattle.rankers.specs.steps.FieldValue.{value_by_bit}
use Rattle.rankers.proofs.FieldValues.{IsSummed}
use Rattle.rankers.proofs.by_fields.sum_by_bits.Given as goal

abbrev pub invariant-loop-field : goal.invariant-loop-field
invariant-loop-field l = IsSummed (value_by_bit l.ranker l.fields) l.weights l.field l.sum
