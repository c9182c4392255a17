use Rattle.std.proofs.Common.{Global, Vec}
use Rattle.std.proofs.lemmas.Result.{IfOk-weaker}
use Rattle.row_select.specs.declared.row.Row.{Row}
use Rattle.row_select.proofs.Cutting.{is_top}
use Rattle.row_select.proofs.page.top.Goals as goal

pub returns : goal.returns
returns c =
    let first = c.first_in_order-first.result.now in
    IfOk-weaker _ _ _ (λ (shown : Vec Row Global) is. is_top c.args.order.now c.args.page.now c.args.rows.items c.deref_mut.result.now first c.end.result c.min-passed.result c.deref_mut.ensures.value
    c.first_in_order-first.ensures c.end.ensures c.min-passed.ensures shown.items is) c.take_rows.ensures
