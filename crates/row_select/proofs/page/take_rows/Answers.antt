use Rattle.std.proofs.Common.{◌<◌, length, arith}
use Rattle.row_select.proofs.Moved.{one_less, one_more}
use Rattle.row_select.proofs.page.take_rows.Goals as goal

pub loop-row-preserved : goal.loop-row-preserved
loop-row-preserved c =
    let at = c.loop-row in
    let left = at.invariant.left in
    let low : at.row-index < length at.rows = omega (arith, at.auto.rows, c.loop-row-test.true) in
    record {
      taken = one_more at.rows c.args.rows.now at.row-index low left at.taken.items c.push.new.self.items c.replace.result c.row-item.result at.invariant.taken c.replace.ensures.value c.in_ok-push.ensures.items;
      left = one_less at.rows c.args.rows.now at.row-index low left c.replace.new.dest;
    }
