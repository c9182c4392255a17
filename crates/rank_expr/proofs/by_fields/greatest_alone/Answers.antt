use Rattle.std.proofs.Common.{◌≡◌, ◌*◌, ◌^◌, ◌<◌, subst, sym, arith}
use Rattle.rankers.specs.Weight.{max_lcs}
use Rattle.rankers.proofs.FieldValues.{max_lcs_small}
use Rattle.rank_expr.proofs.by_fields.greatest_alone.Goals as goal

pub overflow_mul-result : goal.overflow_mul-result
overflow_mul-result c =
    let small = max_lcs_small c.args.keywords c.args.weights.now c.requires.keywords c.requires.fields c.requires.each_weight in
    let is : c.from.result * c.sum_of.result ≡ max_lcs c.args.keywords c.args.weights.now = cc in
    let below : c.from.result * c.sum_of.result < 2 ^ 30 = subst (λ n. n < 2 ^ 30) (sym is) small in
    omega (arith, below)
