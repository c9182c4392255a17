use Rattle.table_search.proofs.Marks.{marks_step}
use Rattle.table_search.proofs.prefix_docs.add_marks.Goals as goal

pub loop-row-preserved : goal.loop-row-preserved
loop-row-preserved c =
    marks_step c.args.dead.now c.args.marks.now c.loop-row.row c.loop-row.count c.in_ok-count.count c.args.docs c.loop-row-test.true c.loop-row.invariant c.in_ok-count.ensures
