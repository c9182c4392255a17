use Rattle.rankers.proofs.LoneValues.{weight_by_bits}
use Rattle.rankers.proofs.by_fields.weight_of_fields.Goals as goal

pub returns-in_default : goal.returns-in_default
returns-in_default c = λ hits query word some ranked one bits.
    weight_by_bits c.args.ranker c.args.fields query word c.sum_by_bits.result c.as_slice.result.now c.args.weights.now.list hits c.in_default.not-None c.requires.ranker c.as_slice.ensures c.sum_by_bits.ensures some ranked one bits
