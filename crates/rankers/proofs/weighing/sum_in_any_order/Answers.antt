use Rattle.rankers.specs.steps.FieldValue.{field_value}
use Rattle.rankers.proofs.FieldValues.{summed_more, summed_all}
use Rattle.rankers.proofs.weighing.sum_in_any_order.Goals as goal

pub loop-field-preserved : goal.loop-field-preserved
loop-field-preserved c =
    summed_more (λ number weight. field_value c.args.ranker c.args.most number weight c.args.hits.now) c.args.weights.now c.loop-field.field c.loop-field.sum c.loop-field.invariant c.field_value-sum.result
    c.loop-field-test.true c.field_value-sum.ensures.value c.field_value-sum.ensures.bound

pub returns : goal.returns
returns c = summed_all (λ number weight. field_value c.args.ranker c.args.most number weight c.args.hits.now) c.args.weights.now c.loop-field.field c.loop-field.sum c.loop-field.invariant c.loop-field-test.false
