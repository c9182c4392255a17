use Rattle.std.proofs.Common.{◌*◌, ◌≤◌, ap, subst, sym, arith, ◌∙◌}
use Rattle.std.proofs.lemmas.Nat.{mul-le}
use Rattle.rankers.specs.Weight.{weight}
use Rattle.rankers.specs.declared.ranker.Ranker.{Ranker}
use Rattle.rankers.specs.declared.ranker.Ranker.TheVariants as rankers
use Rattle.rankers.specs.steps.FieldValue.{values_by_bits}
use Rattle.rankers.proofs.MostWithin.{bits_small, weighs_within, masks_within}
use Rattle.rankers.proofs.limits.most_within.Goals as goal

pub overflow_mul-result : goal.overflow_mul-result
overflow_mul-result c =
    let small = bits_small c.args.fields c.args.weights.now.list c.requires.few c.requires.each_weight in
    let total = c.sum_by_bits.ensures ∙ ap (values_by_bits rankers.Proximity c.args.fields) c.as_slice-weights.ensures in
    let product = mul-le c.args.keywords c.sum_by_bits.result 255 2097120 (omega arith) (omega (arith, small, total)) in
    omega (arith, product)

pub returns-in-Proximity : goal.returns-in-Proximity
returns-in-Proximity c = λ hits positions some ranked few of inside.
    let total = c.sum_by_bits.ensures ∙ ap (values_by_bits rankers.Proximity c.args.fields) c.as_slice-weights.ensures in
    subst (λ (its : Ranker). weight its hits c.args.weights.now.list ≤ c.args.keywords * c.sum_by_bits.result) (sym c.in-Proximity.is)
    (weighs_within c.args.keywords c.args.fields _ c.args.weights.now.list positions hits (ap (λ sum. c.args.keywords * sum) total) some ranked few of inside)

pub returns-in-FieldMask : goal.returns-in-FieldMask
returns-in-FieldMask c = λ hits positions some ranked few of inside.
    let total = c.sum_by_bits-in-FieldMask.ensures ∙ ap (values_by_bits rankers.FieldMask c.args.fields) c.as_slice-weights.ensures in
    subst (λ (its : Ranker). weight its hits c.args.weights.now.list ≤ c.sum_by_bits-in-FieldMask.result) (sym c.in-FieldMask.is)
    (masks_within c.args.fields _ c.args.weights.now.list hits total some inside)
