use Rattle.std.proofs.Common.{arith}
use Rattle.row_plans.proofs.LivingRows.{dead_here, dead_past, gone_more}
use Rattle.row_plans.proofs.living.is_dead.Goals as goal
use Rattle.row_plans.proofs.living.is_dead.Goals.{then-gone_over-test+else-dead-gone, else-gone_over-test}

pub gone_over-preserved : goal.gone_over-preserved
gone_over-preserved c = gone_more c.args.dead.now c.gone_over.gone c.args.row c.requires.ascend c.gone_over.invariant c.gone_over-test.true c.if-dead-gone.true

pub returns-then-gone-dead-clause-dead : goal.returns-then-gone-dead-clause-dead
returns-then-gone-dead-clause-dead c = elim c.gone_over-test.branch [
  | then-gone_over-test+else-dead-gone w ↦ dead_here c.args.dead.now c.gone_over.gone c.args.row c.requires.ascend c.gone_over.invariant c.if-gone-dead.true w.if-dead-gone.false
  | else-gone_over-test w ↦ absurd (omega (arith, c.if-gone-dead.true, w.gone_over-test.false))
]

pub returns-else-gone-dead-clause-dead : goal.returns-else-gone-dead-clause-dead
returns-else-gone-dead-clause-dead c = dead_past c.args.dead.now c.gone_over.gone c.args.row c.requires.ascend c.gone_over.invariant c.if-gone-dead.false
