-- The values before the index stand after what was there.
use Rattle.std.proofs.Common.{◌≡◌, ◌≤◌, ◌++◌, take, vec_capacity}
use Rattle.mysql_wire.specs.Rows.{row_payload}
use Rattle.mysql_wire.proofs.rows.put_cells.Given as goal

abbrev pub invariant-loop-cell : goal.invariant-loop-cell
invariant-loop-cell l = record {
  written : l.out.items ≡ l.fn.out.items ++ row_payload (take l.cell-index l.cells);
  room : vec_capacity l.fn.out ≤ vec_capacity l.out;
}
