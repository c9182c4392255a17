use Rattle.std.proofs.Common.{◌≡◌, ◌≤◌, ◌∙◌, ℕ, true, List, rules, subst, sym}
use Rattle.row_select.specs.Collecting.{Collection, count_not_after}
use Rattle.row_select.specs.Pages.{page_end}
use Rattle.row_select.specs.Sinks.{NeedsNoneBeyond}
use Rattle.row_select.specs.declared.row.Row.{Row}
use Rattle.row_select.specs.steps.Collecting.{all_fall_behind}
use Rattle.row_select.proofs.Beyond.{beyond_behind}
use Rattle.row_select.proofs.collector.Collector.needs_none_beyond.Goals as goal

pub returns : goal.returns
returns c = λ said.
    let inside = c.self.inside in
    let foremost : Row = record { id = c.args.from; weight = c.args.most; values = c.new-2.result } in
    let all : all_fall_behind inside.order.now.keys ≡ true = sym c.self.invariant.3 ∙ c.if-not-self.false in
    let here : c.deref.result.now ≡ inside.rows.items = search rules in
    let behind : page_end inside.page ≤ count_not_after inside.order.now foremost inside.rows.items =
    subst (λ (end : ℕ). end ≤ count_not_after inside.order.now foremost inside.rows.items) c.end.ensures
    (subst (λ (rows : List Row). c.end.result ≤ count_not_after inside.order.now foremost rows) here (c.is_behind.ensures.behind said)) in
    subst (λ (v : Collection). NeedsNoneBeyond c.args.most c.args.from v) c.self.view_is (beyond_behind inside.order.now foremost all (page_end inside.page) inside.rows.items behind)
