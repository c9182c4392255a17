use Rattle.std.proofs.Common.{List, IfOk, Global, Vec, subst}
use Rattle.std.proofs.lemmas.Result.{IfOk-weaker}
use Rattle.srch_base.specs.declared.faults.NoMemory.{NoMemory}
use Rattle.row_select.specs.Collecting.{Collection, Keeps}
use Rattle.row_select.specs.Pages.{IsTop}
use Rattle.row_select.specs.declared.row.Row.{Row}
use Rattle.row_select.proofs.Collected.{top_of_all}
use Rattle.row_select.proofs.collector.Collector.finish.Goals as goal

pub returns : goal.returns
returns c =
    let inside = c.self.inside in
    subst (λ (v : Collection). (offered : List Row) → Keeps offered v → IfOk c.top.result (λ shown. IsTop offered v.order v.page shown.items)) c.self.view_is
    (λ offered enough. IfOk-weaker {Y = NoMemory} _ _ _ (λ (shown : Vec Row Global) is. top_of_all inside.order.now inside.page offered inside.rows.items shown.items enough is) c.top.ensures)
