use Rattle.std.proofs.Common.{◌≡◌, ◌-◌, suc, [], ◌∷◌, ◌++◌, true, false, refl, sym, ap, ◌∙◌, subst, arith}
use Rattle.token_grammar.specs.Reading.{IsNextOf}
use Rattle.token_grammar.proofs.Rows.{fails_first, fails_with, now_there}
use Rattle.query_grammar.specs.declared.class.Class.TheVariants as classes
use Rattle.query_grammar.specs.steps.Classes.{same_class}
use Rattle.query_grammar.specs.steps.MarkAlphabet.{query_marks}
use Rattle.query_read.proofs.NodeValues.{item_filled, given_filled}
use Rattle.query_read.proofs.SignSteps.{next_is, next_not, class_is, takes_sign}
use Rattle.query_read.proofs.RowSteps.{takes_less}
use Rattle.query_read.proofs.ItemSteps.{group_begins, group_none, group_fails, group_read, join_leaves, join_loose, join_group, join_fails, ChoicesRead, choices_first, choices_or, choices_maybe, or_fails, maybe_fails, choices_done, item_not, not_fails, item_plain, plain_fails, items_first, first_fails, items_more, later_fails, items_done}
use Rattle.query_read.proofs.OrderSteps.{limits_fail, items_fail, section_given, sections_first, first_section_fails, sections_more, next_section_fails, sections_done, orders_first, first_and_fails, orders_before, orders_near, before_fails, near_fails, orders_done}
use Rattle.query_read.proofs.reader.+readers.Goals as goal

pub group-returns-then-depth-eq0 : goal.group-returns-then-depth-eq0
group-returns-then-depth-eq0 t c = group_none c.args.depth c.if-depth-eq0.true c.requires c.place.ensures

pub group-returns-in_err-node : goal.group-returns-in_err-node
group-returns-in_err-node t c =
    let deeper : c.args.depth ≡ suc (c.args.depth - 1) = omega arith in
    fails_with _ _ c.from_residual.result c.from_residual.ensures.1 (group_fails (c.args.depth - 1) deeper c.requires (group_begins c.requires c.skip.ensures) c.in_err-node.ensures)

pub group-returns : goal.group-returns
group-returns t c =
    let deeper : c.args.depth ≡ suc (c.args.depth - 1) = omega arith in
    group_read (c.args.depth - 1) _ c.closed.result deeper c.requires (group_begins c.requires c.skip.ensures) c.in_ok-node.ensures c.closed.ensures

pub join-returns-in-Leaf : goal.join-returns-in-Leaf
join-returns-in-Leaf t c = join_leaves c.args.depth _ c.leaves.result (class_is classes.Leaf true c.class.ensures.next (ap (same_class classes.Leaf) c.in-Leaf.is)) c.leaves.ensures

pub join-returns-in-Loose : goal.join-returns-in-Loose
join-returns-in-Loose t c = join_loose c.args.depth _ c.loose.result (class_is classes.Loose true c.class.ensures.next (ap (same_class classes.Loose) c.in-Loose.is)) c.loose.ensures

pub join-returns-in-Open : goal.join-returns-in-Open
join-returns-in-Open t c = join_group c.args.depth _ c.group.result (class_is classes.Open true c.class.ensures.next (ap (same_class classes.Open) c.in-Open.is)) c.group.ensures

pub join-returns-in_default : goal.join-returns-in_default
join-returns-in_default t c = join_fails c.args.depth c.class.ensures.next c.in_default.not-Leaf c.in_default.not-Loose c.in_default.not-Open c.place.ensures

pub alternatives-returns-in_err-node : goal.alternatives-returns-in_err-node
alternatives-returns-in_err-node t c = fails_with _ _ c.from_residual.result c.from_residual.ensures.1 (fails_first c.in_err-node.ensures refl)

pub alternatives-choices-init : goal.alternatives-choices-init
alternatives-choices-init t c = choices_first c.args.depth c.in_ok-node.ensures

pub alternatives-returns-in_err-node-2 : goal.alternatives-returns-in_err-node-2
alternatives-returns-in_err-node-2 t c =
    fails_with _ _ c.from_residual-in_err-node-2.result c.from_residual-in_err-node-2.ensures.1
    (or_fails c.args.depth _ c.join-then-takes.result c.choices.invariant c.if-takes.ensures.0 c.if-takes.ensures.1 c.join-then-takes.ensures c.in_err-node-2.ensures)

pub alternatives-choices-preserved-then-takes : goal.alternatives-choices-preserved-then-takes
alternatives-choices-preserved-then-takes t c =
    choices_or c.args.depth _ c.join-then-takes.result c.choices.invariant c.if-takes.ensures.0 c.if-takes.ensures.1 c.join-then-takes.ensures c.in_ok-node-2.ensures

pub alternatives-returns-in_err-node-3 : goal.alternatives-returns-in_err-node-3
alternatives-returns-in_err-node-3 t c =
    let so_far = subst (λ u. ChoicesRead c.args.depth c.args.input.now c.choices.node u) (sym c.if-takes.ensures.0) c.choices.invariant in
    fails_with _ _ c.from_residual-in_err-node-3.result c.from_residual-in_err-node-3.ensures.1
    (maybe_fails c.args.depth _ c.join-then-takes-2.result so_far c.if-takes-2.ensures.0 c.if-takes-2.ensures.1 c.join-then-takes-2.ensures c.in_err-node-3.ensures)

pub alternatives-choices-preserved : goal.alternatives-choices-preserved
alternatives-choices-preserved t c =
    let so_far = subst (λ u. ChoicesRead c.args.depth c.args.input.now c.choices.node u) (sym c.if-takes.ensures.0) c.choices.invariant in
    choices_maybe c.args.depth _ c.join-then-takes-2.result so_far c.if-takes-2.ensures.0 c.if-takes-2.ensures.1 c.join-then-takes-2.ensures c.in_ok-node-3.ensures

pub alternatives-returns-else-takes-2 : goal.alternatives-returns-else-takes-2
alternatives-returns-else-takes-2 t c =
    let maybe = subst (λ u. IsNextOf query_marks classes.Maybe u false) c.if-takes.ensures.0 c.if-takes-2.ensures.1 in
    now_there (c.if-takes-2.ensures.0 ∙ c.if-takes.ensures.0) (choices_done c.args.depth c.choices.invariant c.if-takes.ensures.1 maybe)

pub item-returns-in_err-node : goal.item-returns-in_err-node
item-returns-in_err-node t c = fails_with _ _ c.from_residual.result c.from_residual.ensures.1 (not_fails c.args.depth c.if-takes.ensures.0 c.if-takes.ensures.1 c.in_err-node.ensures)

pub item-returns-in_ok-node : goal.item-returns-in_ok-node
item-returns-in_ok-node t c = item_not c.args.depth c.if-takes.ensures.0 c.if-takes.ensures.1 c.in_ok-node.ensures

pub item-returns-in_err-node-2 : goal.item-returns-in_err-node-2
item-returns-in_err-node-2 t c = fails_with _ _ c.from_residual-in_err-node-2.result c.from_residual-in_err-node-2.ensures.1 (plain_fails c.args.depth c.if-takes.ensures.0 c.if-takes.ensures.1 c.in_err-node-2.ensures)

pub item-returns-in_ok-node-2 : goal.item-returns-in_ok-node-2
item-returns-in_ok-node-2 t c = item_plain c.args.depth c.if-takes.ensures.0 c.if-takes.ensures.1 c.in_ok-node-2.ensures

pub items-returns-in_err-item : goal.items-returns-in_err-item
items-returns-in_err-item t c = fails_with _ _ c.from_residual.result c.from_residual.ensures.1 (first_fails c.args.depth c.in_err-item.ensures)

pub items-items-init : goal.items-items-init
items-items-init t c = items_first c.args.depth (c.in_ok-push.ensures.ok ∙ ap (λ v. v ++ c.in_ok-item.field-0 ∷ []) c.new-items.ensures) c.in_ok-item.ensures

pub items-returns-in_err-item-2 : goal.items-returns-in_err-item-2
items-returns-in_err-item-2 t c =
    fails_with _ _ c.from_residual-in_err-item-2.result c.from_residual-in_err-item-2.ensures.1
    (later_fails c.args.depth c.items.invariant c.class.ensures.next (sym c.begins_item.ensures ∙ c.items-test.true) c.in_err-item-2.ensures)

pub items-items-smaller : goal.items-items-smaller
items-items-smaller t c = takes_less (item_filled c.args.depth c.in_ok-item-2.field-0) c.in_ok-item-2.ensures

pub items-items-preserved : goal.items-items-preserved
items-items-preserved t c =
    items_more c.args.depth c.items.invariant c.class.ensures.next (sym c.begins_item.ensures ∙ c.items-test.true) c.in_ok-item-2.ensures c.in_ok-push-2.ensures.ok

pub items-returns : goal.items-returns
items-returns t c = items_done c.args.depth c.items.invariant c.class.ensures.next (sym c.begins_item.ensures ∙ c.items-test.false)

pub section-returns-in_err-span : goal.section-returns-in_err-span
section-returns-in_err-span t c = fails_with _ _ c.from_residual.result c.from_residual.ensures.1 (limits_fail c.args.depth c.in_err-span.ensures)

pub section-returns-in_err-items : goal.section-returns-in_err-items
section-returns-in_err-items t c =
    fails_with _ _ c.from_residual-in_err-items.result c.from_residual-in_err-items.ensures.1 (items_fail c.args.depth c.in_ok-span.ensures c.in_err-items.ensures)

pub section-returns : goal.section-returns
section-returns t c = section_given c.args.depth c.in_ok-span.ensures c.in_ok-items.ensures c.in_ok-given.ensures

pub and-returns-in_err-all : goal.and-returns-in_err-all
and-returns-in_err-all t c = fails_with _ _ c.from_residual.result c.from_residual.ensures.1 (first_section_fails c.args.depth c.in_err-all.ensures)

pub and-sections-init : goal.and-sections-init
and-sections-init t c = sections_first c.args.depth c.in_ok-all.ensures

pub and-returns-in_err-section : goal.and-returns-in_err-section
and-returns-in_err-section t c =
    fails_with _ _ c.from_residual-in_err-section.result c.from_residual-in_err-section.ensures.1 (next_section_fails c.args.depth c.sections.invariant c.sections-test.ensures c.in_err-section.ensures)

pub and-sections-smaller : goal.and-sections-smaller
and-sections-smaller t c = takes_less (given_filled c.args.depth _ c.in_ok-section.field-0) c.in_ok-section.ensures

pub and-sections-preserved : goal.and-sections-preserved
and-sections-preserved t c = sections_more c.args.depth c.sections.invariant c.sections-test.ensures c.in_ok-section.ensures c.in_ok-append.ensures

pub and-returns : goal.and-returns
and-returns t c = sections_done c.args.depth c.sections.invariant c.sections-test.ensures c.node_of.ensures

pub expr-returns-in_err-node : goal.expr-returns-in_err-node
expr-returns-in_err-node t c = fails_with _ _ c.from_residual.result c.from_residual.ensures.1 (first_and_fails c.args.depth c.in_err-node.ensures)

pub expr-orders-init : goal.expr-orders-init
expr-orders-init t c = orders_first c.args.depth c.in_ok-node.ensures

pub expr-returns-in_err-node-in-Before : goal.expr-returns-in_err-node-in-Before
expr-returns-in_err-node-in-Before t c =
    fails_with _ _ c.from_residual-in_err-node-in-Before.result c.from_residual-in_err-node-in-Before.ensures.1
    (before_fails c.args.depth _ c.and-in-Before.result c.orders.invariant (next_is classes.Before true c.sign.ensures c.in-Before.is refl) (takes_sign classes.Before c.sign.ensures c.in-Before.is refl c.skip.ensures) c.and-in-Before.ensures c.in_err-node-in-Before.ensures)

pub expr-orders-preserved-in-Before : goal.expr-orders-preserved-in-Before
expr-orders-preserved-in-Before t c =
    orders_before c.args.depth _ c.and-in-Before.result c.orders.invariant (next_is classes.Before true c.sign.ensures c.in-Before.is refl) (takes_sign classes.Before c.sign.ensures c.in-Before.is refl c.skip.ensures) c.and-in-Before.ensures c.in_ok-node-in-Before.ensures

pub expr-returns-in_err-node-in-Near : goal.expr-returns-in_err-node-in-Near
expr-returns-in_err-node-in-Near t c =
    fails_with _ _ c.from_residual-in_err-node-in-Near.result c.from_residual-in_err-node-in-Near.ensures.1
    (near_fails c.args.depth c.in-Near.number _ c.and-in-Near.result c.orders.invariant (next_is classes.Near true c.sign.ensures c.in-Near.is refl) (takes_sign classes.Near c.sign.ensures c.in-Near.is refl c.skip-in-Near.ensures) c.and-in-Near.ensures c.in_err-node-in-Near.ensures)

pub expr-orders-preserved : goal.expr-orders-preserved
expr-orders-preserved t c =
    orders_near c.args.depth _ c.and-in-Near.result c.orders.invariant (next_is classes.Near true c.sign.ensures c.in-Near.is refl) (takes_sign classes.Near c.sign.ensures c.in-Near.is refl c.skip-in-Near.ensures) c.and-in-Near.ensures c.in_ok-node-in-Near.ensures

pub expr-returns-in_default : goal.expr-returns-in_default
expr-returns-in_default t c =
    orders_done c.args.depth c.orders.invariant (next_not classes.Before c.sign.ensures c.in_default.not-Before) (next_not classes.Near c.sign.ensures (λ (number, is). c.in_default.not-Near number is))
