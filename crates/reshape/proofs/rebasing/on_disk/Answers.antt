use Rattle.doc_types.specs.Snapshots.{LayerValue}
use Rattle.reshape.proofs.Taking.{filter_more}
use Rattle.reshape.proofs.rebasing.on_disk.Goals as goal

pub loop-layer-preserved : goal.loop-layer-preserved
loop-layer-preserved g c = filter_more (λ (layer : LayerValue). layer.disk) c.args.layers.now _ _ _ _ c.loop-layer-test.true c.layer-item.is c.loop-layer.invariant c.in_ok-push_disk.ensures
