use Rattle.std.proofs.Common.{◌≡◌, ◌*◌, ◌^◌, ◌<◌, subst, sym, arith}
use Rattle.rankers.specs.Weight.{max_lcs}
use Rattle.rankers.proofs.FieldValues.{max_lcs_small}
use Rattle.rankers.proofs.weighing.sum_over_fields.Goals as goal
use Rattle.rankers.proofs.weighing.sum_over_fields.Goals.{After-sum_of}

most_is : (c : After-sum_of) → c.from.result * c.sum_of.result ≡ max_lcs c.args.hits.now.keywords c.args.weights.now
most_is c = cc

most_small : (c : After-sum_of) → c.from.result * c.sum_of.result < 2 ^ 30
most_small c =
    let small = max_lcs_small c.args.hits.now.keywords c.args.weights.now c.requires.keywords c.requires.fields c.requires.each_weight in
    subst (λ n. n < 2 ^ 30) (sym (most_is c)) small

pub overflow_mul-most : goal.overflow_mul-most
overflow_mul-most c = omega (arith, most_small c)

pub sum_in_order-requires-clause-most : goal.sum_in_order-requires-clause-most
sum_in_order-requires-clause-most c = most_small (goal.at.sum_in_order-requires-clause-most c).After-sum_of

pub sum_in_any_order-requires-clause-most : goal.sum_in_any_order-requires-clause-most
sum_in_any_order-requires-clause-most c = most_small (goal.at.sum_in_any_order-requires-clause-most c).After-sum_of
