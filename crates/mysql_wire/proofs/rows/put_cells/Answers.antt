-- Where a value isn't written whole, the front is what it was before that value, and so what it was at first.
use Rattle.std.proofs.Common.{rules, take, vec_len}
use Rattle.mysql_wire.specs.Rows.{row_payload}
use Rattle.mysql_wire.proofs.Appends.{front_stays}
use Rattle.mysql_wire.proofs.rows.put_cells.Goals as goal

pub returns-in_err-put_cell-clause-front : goal.returns-in_err-put_cell-clause-front
returns-in_err-put_cell-clause-front c =
    front_stays c.args.out.now.items (row_payload (take c.loop-cell.cell-index c.args.cells.now)) c.loop-cell.out.items c.put_cell.new.out.items (vec_len c.args.out.now) (vec_len c.loop-cell.out) (search rules) c.loop-cell.invariant.written c.put_cell.ensures.front
