use Rattle.std.proofs.Common.{rules}
use Rattle.layer_commit.proofs.DeadRows.{rows_more}
use Rattle.layer_commit.proofs.dead_rows.rows_of.Goals as goal

pub loop-id-preserved : goal.loop-id-preserved
loop-id-preserved g c = rows_more c.args.layer.now c.args.ids.now _ _ _ _ c.loop-id-test.true (search rules) c.loop-id.invariant c.in_ok-push_living.ensures
