use Rattle.std.proofs.Common.{rules}
use Rattle.layer_commit.proofs.DeadRows.{joined_next}
use Rattle.layer_commit.proofs.dead_rows.joined.Goals as goal

pub loop-row-preserved : goal.loop-row-preserved
loop-row-preserved c =
    joined_next _ _ _ _ _ _ _ _ _ c.loop-row-test.true (search rules) c.in_ok-count.ensures.count c.loop-row.invariant.0 c.loop-row.invariant.1 c.in_ok-count.ensures.rows (search rules)
