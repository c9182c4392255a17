use Rattle.std.proofs.Common.{◌≡◌, ◌++◌, ap, rules, ◌∙◌}
use Rattle.image_join.specs.steps.Numbering.{living_in}
use Rattle.image_join.proofs.Livings.{listed_more}
use Rattle.image_join.proofs.ordering.list_all.Goals as goal

pub loop-number-preserved : goal.loop-number-preserved
loop-number-preserved g c =
    let part = c.index-parts-number.result in
    let put : c.list_living.new.order.items ≡ c.loop-number.order.items ++ living_in c.in_ok-number.number part = search rules in
    let same : c.in_ok-number.number ≡ c.loop-number.number = c.in_ok-number.ensures.is in
    listed_more c.args.parts.now c.loop-number.number part c.loop-number.order.items c.list_living.new.order.items c.loop-number-test.true c.index-parts-number.is c.loop-number.invariant
    (put ∙ ap (λ n. c.loop-number.order.items ++ living_in n part) same)
