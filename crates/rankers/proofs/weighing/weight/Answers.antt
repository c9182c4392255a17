use Rattle.rankers.proofs.FieldValues.{weight_is}
use Rattle.rankers.proofs.weighing.weight.Goals as goal

pub returns-in_default : goal.returns-in_default
returns-in_default c =
    weight_is c.args.ranker c.args.hits.now c.as_slice.result.now c.args.weights.now.list c.sum_over_fields.result c.if-hits-eq0.false c.in_default.not-None c.as_slice.ensures c.sum_over_fields.ensures
