use Rattle.std.proofs.Common.{arith, refl}
use Rattle.layer_commit.proofs.Tried.{all_tried, one_tried}
use Rattle.layer_commit.proofs.trial.try_all.Goals as goal

pub loop-op-preserved : goal.loop-op-preserved
loop-op-preserved g c = one_tried _ _ _ _ _ _ c.loop-op-test.true c.op-item.is c.loop-op.invariant c.in_ok-try_op.ensures

pub returns : goal.returns
returns g c =
    all_tried _ _ c.loop-op.op-index c.loop-op.trial _ (omega (arith, c.loop-op-test.false)) c.loop-op.invariant c.in_ok-docs.ensures.ordered c.in_ok-ids.ensures.ordered refl refl c.in_ok-ids.ensures.ids c.in_ok-docs.ensures.docs
