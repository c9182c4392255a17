use Rattle.std.proofs.Common.{◌≡◌, ◌-◌, suc, true, refl, sym, ap, ◌∙◌, arith}
use Rattle.token_grammar.proofs.Rows.{fails_first}
use Rattle.query_grammar.specs.declared.class.Class.TheVariants as classes
use Rattle.query_grammar.specs.steps.Classes.{same_class}
use Rattle.query_read.proofs.SignSteps.{class_is}
use Rattle.query_read.proofs.ItemSteps.{group_none, group_fails, join_fails}
use Rattle.query_read.proofs.OrderSteps.{first_section_fails, first_and_fails}
use Rattle.query_read.proofs.RecognizedRows.{stops_with, taken, row_goes, row_ends, parts_first, choice_more, choice_fails, choice_done, either_less, part_less}
use Rattle.query_read.proofs.RecognizedParts.{opened, group_closes, loose_atom, item_some, choices, orders, join_leaf, join_other, item_not, item_plain, section_first, no_item, section_more, section_fails, section_done, sections_first, sections_more, sections_fail, sections_done}
use Rattle.query_read.proofs.recognizer.+recognizers.Goals as goal

pub group-returns-then-depth-eq0 : goal.group-returns-then-depth-eq0
group-returns-then-depth-eq0 t c = group_none c.args.depth c.if-depth-eq0.true c.requires c.place.ensures

pub group-returns-in_err-expr : goal.group-returns-in_err-expr
group-returns-in_err-expr t c =
    let deeper : c.args.depth ≡ suc (c.args.depth - 1) = omega arith in
    stops_with _ c.from_residual.result c.from_residual.ensures.1 (group_fails (c.args.depth - 1) deeper c.requires (opened c.requires c.skip.ensures) c.in_err-expr.ensures)

pub group-returns : goal.group-returns
group-returns t c =
    let deeper : c.args.depth ≡ suc (c.args.depth - 1) = omega arith in
    group_closes (c.args.depth - 1) _ c.expect.result deeper c.requires (opened c.requires c.skip.ensures) c.in_ok-expr.ensures c.expect.ensures

pub join-returns-in-Leaf : goal.join-returns-in-Leaf
join-returns-in-Leaf t c = join_leaf c.args.depth _ c.leaves.result (class_is classes.Leaf true c.class.ensures.next (ap (same_class classes.Leaf) c.in-Leaf.is)) c.leaves.ensures

pub join-returns-in-Loose : goal.join-returns-in-Loose
join-returns-in-Loose t c =
    let next = class_is classes.Loose true c.class.ensures.next (ap (same_class classes.Loose) c.in-Loose.is) in
    join_other c.args.depth _ c.expect.result next refl (loose_atom c.args.depth _ c.expect.result next c.expect.ensures)

pub join-returns-in-Open : goal.join-returns-in-Open
join-returns-in-Open t c = join_other c.args.depth _ c.group.result (class_is classes.Open true c.class.ensures.next (ap (same_class classes.Open) c.in-Open.is)) refl c.group.ensures

pub join-returns-in_default : goal.join-returns-in_default
join-returns-in_default t c = join_fails c.args.depth c.class.ensures.next c.in_default.not-Leaf c.in_default.not-Loose c.in_default.not-Open c.place.ensures

pub alternatives-returns-in_err-join : goal.alternatives-returns-in_err-join
alternatives-returns-in_err-join t c = stops_with _ c.from_residual.result c.from_residual.ensures.1 (fails_first c.in_err-join.ensures refl)

pub alternatives-choices-init : goal.alternatives-choices-init
alternatives-choices-init t c = parts_first c.in_ok-join.ensures refl

pub alternatives-choices-smaller : goal.alternatives-choices-smaller
alternatives-choices-smaller t c = either_less c.choices-test.ensures c.in_ok-join-2.ensures

pub alternatives-choices-preserved : goal.alternatives-choices-preserved
alternatives-choices-preserved t c = choice_more (choices c.args.depth) c.choices.invariant c.choices-test.ensures c.in_ok-join-2.ensures

pub alternatives-returns-in_err-join-2 : goal.alternatives-returns-in_err-join-2
alternatives-returns-in_err-join-2 t c =
    stops_with _ c.from_residual-in_err-join-2.result c.from_residual-in_err-join-2.ensures.1 (choice_fails (choices c.args.depth) c.choices.invariant c.choices-test.ensures c.in_err-join-2.ensures)

pub alternatives-returns : goal.alternatives-returns
alternatives-returns t c = choice_done (choices c.args.depth) c.choices.invariant c.choices-test.ensures

pub item-returns-then-takes : goal.item-returns-then-takes
item-returns-then-takes t c = item_not c.args.depth _ c.join.result (taken c.if-takes.ensures.0) c.if-takes.ensures.1 c.join.ensures

pub item-returns-else-takes : goal.item-returns-else-takes
item-returns-else-takes t c = item_plain c.args.depth _ c.alternatives.result c.if-takes.ensures.0 c.if-takes.ensures.1 c.alternatives.ensures

pub section-limits-preserved : goal.section-limits-preserved
section-limits-preserved t c = row_goes c.limits.invariant c.limits-test.ensures.1 (taken c.limits-test.ensures.0)

pub section-returns-in_err-item : goal.section-returns-in_err-item
section-returns-in_err-item t c =
    stops_with _ c.from_residual.result c.from_residual.ensures.1 (no_item c.args.depth (row_ends c.limits.invariant c.limits-test.ensures.0 c.limits-test.ensures.1 refl) c.in_err-item.ensures)

pub section-items-init : goal.section-items-init
section-items-init t c = section_first c.args.depth (row_ends c.limits.invariant c.limits-test.ensures.0 c.limits-test.ensures.1 refl) c.in_ok-item.ensures

pub section-items-smaller : goal.section-items-smaller
section-items-smaller t c = part_less (item_some c.args.depth) c.in_ok-item-2.ensures

pub section-items-preserved : goal.section-items-preserved
section-items-preserved t c = section_more c.args.depth c.items.invariant c.class.ensures.next (sym c.begins_item.ensures ∙ c.items-test.true) c.in_ok-item-2.ensures

pub section-returns-in_err-item-2 : goal.section-returns-in_err-item-2
section-returns-in_err-item-2 t c =
    stops_with _ c.from_residual-in_err-item-2.result c.from_residual-in_err-item-2.ensures.1 (section_fails c.args.depth c.items.invariant c.class.ensures.next (sym c.begins_item.ensures ∙ c.items-test.true) c.in_err-item-2.ensures)

pub section-returns : goal.section-returns
section-returns t c = section_done c.args.depth c.items.invariant c.class.ensures.next (sym c.begins_item.ensures ∙ c.items-test.false)

pub and-returns-in_err-section : goal.and-returns-in_err-section
and-returns-in_err-section t c = stops_with _ c.from_residual.result c.from_residual.ensures.1 (first_section_fails c.args.depth c.in_err-section.ensures)

pub and-sections-init : goal.and-sections-init
and-sections-init t c = sections_first c.args.depth c.in_ok-section.ensures

pub and-sections-preserved : goal.and-sections-preserved
and-sections-preserved t c = sections_more c.args.depth c.sections.invariant (taken c.sections-test.ensures.0) c.sections-test.ensures.1 c.in_ok-section-2.ensures

pub and-returns-in_err-section-2 : goal.and-returns-in_err-section-2
and-returns-in_err-section-2 t c =
    stops_with _ c.from_residual-in_err-section-2.result c.from_residual-in_err-section-2.ensures.1
    (sections_fail c.args.depth c.sections.invariant (taken c.sections-test.ensures.0) c.sections-test.ensures.1 c.in_err-section-2.ensures)

pub and-returns : goal.and-returns
and-returns t c = sections_done c.args.depth c.sections.invariant c.sections-test.ensures.0 c.sections-test.ensures.1

pub expr-returns-in_err-and : goal.expr-returns-in_err-and
expr-returns-in_err-and t c = stops_with _ c.from_residual.result c.from_residual.ensures.1 (first_and_fails c.args.depth c.in_err-and.ensures)

pub expr-orders-init : goal.expr-orders-init
expr-orders-init t c = parts_first c.in_ok-and.ensures refl

pub expr-orders-smaller : goal.expr-orders-smaller
expr-orders-smaller t c = either_less c.orders-test.ensures c.in_ok-and-2.ensures

pub expr-orders-preserved : goal.expr-orders-preserved
expr-orders-preserved t c = choice_more (orders c.args.depth) c.orders.invariant c.orders-test.ensures c.in_ok-and-2.ensures

pub expr-returns-in_err-and-2 : goal.expr-returns-in_err-and-2
expr-returns-in_err-and-2 t c =
    stops_with _ c.from_residual-in_err-and-2.result c.from_residual-in_err-and-2.ensures.1 (choice_fails (orders c.args.depth) c.orders.invariant c.orders-test.ensures c.in_err-and-2.ensures)

pub expr-returns : goal.expr-returns
expr-returns t c = choice_done (orders c.args.depth) c.orders.invariant c.orders-test.ensures
