use Rattle.std.proofs.Common.{◌≡◌, ◌++◌, map, take}
use Rattle.mysql_wire.specs.Rows.{row_payload}
use Rattle.mysql_wire.specs.declared.rows.Cell.TheVariants.{Whole}
use Rattle.ql_answers.specs.Reading.{row_value}
use Rattle.ql_answers.proofs.found.put_row_cells.Given as goal

abbrev pub invariant-columns : goal.invariant-columns
invariant-columns l =
    l.payload.items ≡ l.initial.payload.items ++ row_payload (map (λ one. Whole (row_value one.from l.row)) (take l.one-index l.shown))
