use Rattle.rankers.specs.steps.FieldValue.{value_by_bit}
use Rattle.rankers.proofs.FieldValues.{summed_more, summed_all}
use Rattle.rankers.proofs.by_fields.sum_by_bits.Goals as goal

pub loop-field-preserved : goal.loop-field-preserved
loop-field-preserved c =
    summed_more (value_by_bit c.args.ranker c.args.fields) c.args.weights.now c.loop-field.field c.loop-field.sum c.loop-field.invariant c.value_by_bit-sum.result c.loop-field-test.true
    c.value_by_bit-sum.ensures.value c.value_by_bit-sum.ensures.bound

pub returns : goal.returns
returns c = summed_all (value_by_bit c.args.ranker c.args.fields) c.args.weights.now c.loop-field.field c.loop-field.sum c.loop-field.invariant c.loop-field-test.false
