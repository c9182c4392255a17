use Rattle.std.proofs.Common.{◌≡◌, drop}
use Rattle.row_select.specs.Orders.{by_keys}
use Rattle.row_select.proofs.order.Order.compare.Given as goal

abbrev pub invariant-loop-column : goal.invariant-loop-column
invariant-loop-column g l =
    by_keys l.self.keys (g.R.FoundRow.as_row l.row) (g.O.FoundRow.as_row l.other) ≡ by_keys (drop l.column-index l.column-items) (g.R.FoundRow.as_row l.row) (g.O.FoundRow.as_row l.other)
