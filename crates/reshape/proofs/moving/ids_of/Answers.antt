use Rattle.std.proofs.Common.{[]}
use Rattle.reshape.specs.steps.Moving.{moving_ids}
use Rattle.reshape.proofs.Taking.{pieces_more}
use Rattle.reshape.proofs.moving.ids_of.Goals as goal

pub loop-layer-preserved : goal.loop-layer-preserved
loop-layer-preserved g c = pieces_more (moving_ids c.args.job c.args.front) c.args.layers.now _ _ [] _ _ c.loop-layer-test.true c.layer-item.is c.loop-layer.invariant c.in_ok-push_moving.ensures
