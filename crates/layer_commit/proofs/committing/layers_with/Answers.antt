use Rattle.layer_commit.proofs.Layered.{kept_more}
use Rattle.layer_commit.proofs.committing.layers_with.Goals as goal

pub loop-layer-preserved : goal.loop-layer-preserved
loop-layer-preserved g c = kept_more _ c.args.layers.now _ _ _ _ _ c.loop-layer-test.true c.layer-item.is c.loop-layer.invariant c.in_ok-next.ensures c.in_ok-push_kept.ensures
