use Rattle.std.proofs.Common.{arith, sym, ◌∙◌, ap, List}
use Rattle.std.proofs.lemmas.List.{take_all}
use Rattle.doc_types.specs.Snapshots.{LayerValue}
use Rattle.store_steps.specs.Damage.{again_in}
use Rattle.chunk_files.proofs.Merging.{again_next, again_nothing}
use Rattle.chunk_files.proofs.again.again_in.Goals as goal

pub layers-init : goal.layers-init
layers-init c = again_nothing c.args.layer.now

pub layers-preserved : goal.layers-preserved
layers-preserved c =
    again_next c.args.before.now c.layers.other-index c.other-item.result c.args.layer.now c.layers.first c.again_beside.result c.sooner-first.result c.layers-test.true (sym c.other-item.is) c.layers.invariant c.again_beside.ensures c.sooner-first.ensures

pub returns : goal.returns
returns c = c.layers.invariant ∙ ap (λ (ls : List LayerValue). again_in ls c.args.layer.now) (take_all c.layers.other-index c.args.before.now (omega (arith, c.layers-test.false)))
