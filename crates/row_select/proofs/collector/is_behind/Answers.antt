use Rattle.std.proofs.Common.{rules, ◌≡◌, ◌-◌, ◌<◌, get_or, length, arith}
use Rattle.row_select.proofs.Collected.{behind_border}
use Rattle.row_select.proofs.collector.is_behind.Goals as goal

pub returns-in-Some-clause-behind : goal.returns-in-Some-clause-behind
returns-in-Some-clause-behind g c = λ passes.
    let border = c.in-Some.border.now in
    let rows = c.args.rows.now in
    let low : c.args.end - 1 < length rows = search rules in
    let is : border ≡ get_or rows (c.args.end - 1) border = search rules in
    behind_border c.args.order.now c.args.end rows border (g.R.FoundRow.as_row c.args.row.now) c.requires.bordered (search rules) (omega (arith, low)) is (search rules)
