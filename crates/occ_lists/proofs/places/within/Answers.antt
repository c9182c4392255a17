use Rattle.std.proofs.Common.{[], refl, sym, ◌∙◌}
use Rattle.occ_lists.specs.Places.{within_all}
use Rattle.occ_lists.proofs.Kept.{filter_all}
use Rattle.occ_lists.proofs.PlaceOrder.{within_more}
use Rattle.occ_lists.proofs.places.within.Goals as goal

-- src/places.rt:23:5
pub loop-span-init : goal.loop-span-init
loop-span-init c = (c.requires, sym (filter_all (within_all []) c.args.places.now (λ k d h. refl)))

-- src/places.rt:23:5
pub loop-span-preserved : goal.loop-span-preserved
loop-span-preserved c =
    (c.inside-rest.ensures.ascend, c.inside-rest.ensures.all ∙ within_more c.args.spans.now c.loop-span.span-index _ c.args.places.now c.loop-span.rest.now c.loop-span-test.true c.loop-span.invariant.1)
