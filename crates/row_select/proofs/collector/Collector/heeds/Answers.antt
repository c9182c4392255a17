use Rattle.std.proofs.Common.{◌≡◌, ◌≤◌, ◌∙◌, ℕ, Bool, true, false, List, not, refl, rules, subst, sym}
use mathlib.Core.Bool.{true≢false}
use Rattle.row_select.specs.Collecting.{Collection, count_not_after}
use Rattle.row_select.specs.Pages.{page_end}
use Rattle.row_select.specs.Sinks.{NeedsNoLighter}
use Rattle.row_select.specs.declared.row.Row.{Row}
use Rattle.row_select.specs.steps.Collecting.{brings_lighter}
use Rattle.row_select.proofs.Lighter.{lighter_behind}
use Rattle.row_select.proofs.collector.Collector.heeds.Goals as goal

is_so : (b : Bool) → not b ≡ false → b ≡ true
is_so true is = refl
is_so false is = absurd (true≢false is)

pub returns-else-self : goal.returns-else-self
returns-else-self g c = λ said.
    let inside = c.self.inside in
    let row = g.R.FoundRow.as_row c.args.row.now in
    let none : brings_lighter inside.order.now.keys ≡ false = sym c.self.invariant.2 ∙ c.if-self.false in
    let here : c.deref.result.now ≡ inside.rows.items = search rules in
    let behind : page_end inside.page ≤ count_not_after inside.order.now row inside.rows.items =
    subst (λ (end : ℕ). end ≤ count_not_after inside.order.now row inside.rows.items) c.end-end.ensures
    (subst (λ (rows : List Row). c.end-end.result ≤ count_not_after inside.order.now row rows) here (c.is_behind.ensures.behind (is_so c.is_behind.result said))) in
    subst (λ (v : Collection). NeedsNoLighter v row) c.self.view_is (lighter_behind inside.order.now row none (page_end inside.page) inside.rows.items behind)
