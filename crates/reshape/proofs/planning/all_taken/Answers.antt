use Rattle.reshape.specs.steps.Moving.{takes}
use Rattle.reshape.proofs.Taking.{filter_more}
use Rattle.reshape.proofs.planning.all_taken.Goals as goal

pub loop-layer-preserved : goal.loop-layer-preserved
loop-layer-preserved g c = filter_more (takes c.args.job) c.args.layers.now _ _ _ _ c.loop-layer-test.true c.layer-item.is c.loop-layer.invariant c.in_ok-push_taken.ensures
