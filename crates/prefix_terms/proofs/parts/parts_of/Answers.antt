use Rattle.std.proofs.Common.{◌+◌, List, take, subst, sym}
use Rattle.std.specs.List.{AllZip}
use Rattle.std.proofs.lemmas.List.{take_all}
use Rattle.doc_types.specs.Snapshots.{LayerValue}
use Rattle.prefix_terms.specs.steps.Parts.{IsPartOf}
use Rattle.prefix_terms.proofs.Listing.{zip_more}
use Rattle.prefix_terms.proofs.parts.parts_of.Goals as goal

pub loop-layer-preserved : goal.loop-layer-preserved
loop-layer-preserved g c =
    subst (AllZip (IsPartOf c.args.beginning.now) (take (c.loop-layer.layer-index + 1) c.args.layers.now)) (sym c.in_ok-push.ensures.items)
    (zip_more (IsPartOf c.args.beginning.now) c.args.layers.now c.loop-layer.parts.items c.loop-layer.layer-index c.layer-item.result c.in_ok-part.part c.loop-layer-test.true c.layer-item.is c.loop-layer.invariant c.in_ok-part.ensures)

pub returns : goal.returns
returns g c =
    subst (λ (layers : List LayerValue). AllZip (IsPartOf c.args.beginning.now) layers c.loop-layer.parts.items) (take_all c.loop-layer.layer-index c.args.layers.now c.loop-layer-test.false) c.loop-layer.invariant
