use Rattle.reshape.proofs.Taking.{young_more}
use Rattle.reshape.proofs.rebasing.push_all_young.Goals as goal

pub loop-layer-preserved : goal.loop-layer-preserved
loop-layer-preserved g c = young_more c.args.front c.args.layers.now _ _ c.args.out.now.items _ _ c.loop-layer-test.true c.layer-item.is c.loop-layer.invariant c.in_ok-push_young.ensures
