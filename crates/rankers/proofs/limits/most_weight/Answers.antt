use Rattle.std.proofs.Common.{◌*◌, sum, ap, arith, ◌∙◌}
use Rattle.std.proofs.lemmas.Nat.{mul-le}
use Rattle.rankers.proofs.MostWeights.{weighs_at_most, sum_small}
use Rattle.rankers.proofs.limits.most_weight.Goals as goal

pub overflow_mul-result : goal.overflow_mul-result
overflow_mul-result c =
    let small = sum_small c.args.weights.now.list c.requires.few c.requires.each_weight in
    let product = mul-le c.args.keywords c.sum_of.result 255 2097120 (omega arith) (omega (arith, small, c.sum_of.ensures, ap sum c.as_slice.ensures)) in
    omega (arith, product)

pub returns-in-Proximity : goal.returns-in-Proximity
returns-in-Proximity c = λ hits positions some ranked few of.
    weighs_at_most c.args.ranker hits c.args.weights.now.list positions c.args.keywords _ c.in-Proximity.is (ap (λ total. c.args.keywords * total) (c.sum_of.ensures ∙ ap sum c.as_slice.ensures)) some ranked few of
