use Rattle.std.proofs.Common.{subst, sym, ◌≤◌}
use Rattle.rankers.specs.Weight.{weight}
use Rattle.rankers.specs.declared.ranker.Ranker.{Ranker}
use Rattle.rankers.proofs.LoneValues.{weight_up_to_bits, weighs_one}
use Rattle.rankers.proofs.limits.most_of_fields.Goals as goal

pub returns-in-None : goal.returns-in-None
returns-in-None c = λ hits query word some ranked one inside. subst (λ (its : Ranker). weight its hits c.args.weights.now.list ≤ 1) (sym c.in-None.is) (weighs_one hits c.args.weights.now.list)

pub returns-in_default : goal.returns-in_default
returns-in_default c = λ hits query word some ranked one inside.
    weight_up_to_bits c.args.ranker c.args.fields query word c.sum_by_bits.result c.as_slice.result.now c.args.weights.now.list hits c.in_default.not-None c.in_default.not-WordCount c.as_slice.ensures c.sum_by_bits.ensures some ranked one inside
