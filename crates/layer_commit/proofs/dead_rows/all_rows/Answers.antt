use Rattle.std.proofs.Common.{arith}
use Rattle.layer_commit.proofs.DeadRows.{all_numbers}
use Rattle.layer_commit.proofs.dead_rows.all_rows.Goals as goal

pub returns : goal.returns
returns g c =
    all_numbers c.args.layer.now _ (omega (arith, c.loop-row.invariant.long, c.loop-row.invariant.within, c.row_count-count.ensures, c.loop-row-test.false)) (λ k d h. c.loop-row.invariant.each k d (omega (arith, h, c.loop-row.invariant.long)))
