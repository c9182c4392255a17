use Rattle.layer_commit.proofs.Tried.{IsTried}
use Rattle.layer_commit.proofs.trial.try_all.Given as goal

abbrev pub invariant-loop-op : goal.invariant-loop-op
invariant-loop-op g l = IsTried l.layers l.ops l.op-index l.trial
