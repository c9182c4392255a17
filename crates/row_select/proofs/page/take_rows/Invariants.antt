use Rattle.std.proofs.Common.{◌≡◌, take, drop}
use Rattle.row_select.proofs.page.take_rows.Given as goal

abbrev pub invariant-loop-row : goal.invariant-loop-row
invariant-loop-row l = record {
  taken : l.taken.items ≡ take l.row-index l.fn.rows;
  left : drop l.row-index l.rows ≡ drop l.row-index l.fn.rows;
}
