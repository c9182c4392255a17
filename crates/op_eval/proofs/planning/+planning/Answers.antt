use Rattle.std.proofs.Common.{arith, ◌≡◌, ◌≤◌, ◌+◌, ◌∙◌, ap, sym, subst, false, List, length, inl, inr}
use Rattle.std.specs.Prelude.{◌&&◌}
use Rattle.std.specs.List.{list_all}
use Rattle.std.proofs.lemmas.List.{take_all}
use Rattle.std.proofs.lemmas.Result.{IfOk-weaker}
use Rattle.query_tree.specs.declared.query.Item.{Item}
use Rattle.query_tree.specs.TreeKeys.{node_keys}
use Rattle.query_tree.proofs.NodeKeys.{keys_word, keys_quoted, keys_and, keys_span}
use Rattle.op_eval.specs.steps.Verdicts.{item_passes}
use Rattle.row_plans.specs.declared.plan.Plan.{Plan}
use Rattle.row_plans.specs.Plans.{holds}
use Rattle.row_plans.proofs.HowFar.{holds_all}
use Rattle.op_eval.specs.declared.parts.Parts.{Parts}
use Rattle.op_eval.specs.declared.parts.Rated.{Rated}
use Rattle.op_eval.specs.steps.Evaluating.{items_keys}
use Rattle.op_eval.proofs.Known.{keys_more, keys_within}
use Rattle.op_eval.proofs.Serving.{ServesSoFar, count_joint, left_out, next_is, on_ok, put_in, serves_word, serves_quoted, serves_and, serves_span, serves_or, serves_maybe, serves_ordered}
use Rattle.op_eval.proofs.planning.+planning.Goals as goal
use Rattle.op_eval.proofs.planning.+planning.Goals.{of_items-then-item, of_items-else-item+in_ok-planned+in_ok-put}

pub of_items-loop-item-preserved : goal.of_items-loop-item-preserved
of_items-loop-item-preserved t c = λ l.
    let so = c.loop-item.invariant l in
    let items = c.args.items.now in
    let at = c.loop-item.item-index in
    let item = c.item-item.result in
    let own = ap (λ (i : Item). length (node_keys i.node)) c.item-item.is in
    let more = keys_more items at item c.loop-item-test.true in
    let within = keys_within items at item c.loop-item-test.true in
    elim c.if-item.branch [
      | of_items-then-item w ↦ (
        omega (arith, l, so.0, own, more, within, w.next-is, w.saturating_add.ensures, w.key_count.ensures, c.requires),
        subst (ServesSoFar c.args.next.now items (at + 1)) (ap (λ (parts : Parts). parts.plans.items) (sym w.parts-is)) (left_out c.args.next.now items at item c.loop-item-test.true c.item-item.is c.loop-item.parts.plans.items so.1),
      )
      | of_items-else-item+in_ok-planned+in_ok-put w ↦
          let fits : c.loop-item.next + length (node_keys item.node) ≤ length c.args.counts.now = omega (arith, l, so.0, own, within) in (
            omega (arith, so.0, own, more, w.next-is, w.in_ok-planned.ensures.next fits),
            subst (ServesSoFar c.args.next.now items (at + 1)) (ap (λ (parts : Parts). parts.plans.items) (sym w.parts-is))
                (put_in c.args.next.now items at item c.loop-item-test.true c.item-item.is w.in_ok-planned.field-0.plan c.loop-item.next c.loop-item.parts.plans.items w.put.new.self.plans.items
                w.if-item.false so.0 (w.in_ok-planned.ensures.plan fits) w.in_ok-put.ensures so.1),
          )
    ]

pub of_items-returns-clause-next : goal.of_items-returns-clause-next
of_items-returns-clause-next t c = λ l. (c.loop-item.invariant l).0 ∙ ap (λ (some : List Item). c.args.next.now + length (items_keys some)) (take_all c.loop-item.item-index c.args.items.now c.loop-item-test.false)

pub of_items-returns-clause-plan : goal.of_items-returns-clause-plan
of_items-returns-clause-plan t c = λ l row number has apart known e spans.
    subst (λ (some : List Item). list_all (item_passes row number spans) some ≡ false) (take_all c.loop-item.item-index c.args.items.now c.loop-item-test.false)
    ((c.loop-item.invariant l).1 row number has apart known (sym (ap (holds has) c.all.ensures ∙ holds_all has c.loop-item.parts.plans.items) ∙ e) spans)

pub planned-returns-in-Word-clause-next : goal.planned-returns-in-Word-clause-next
planned-returns-in-Word-clause-next t c = λ l.
    let one = ap length (ap node_keys c.in-Word.is ∙ keys_word c.in-Word.field-0) in
    omega (arith, one, c.word.ensures.next (omega (arith, l, one)))

pub planned-returns-in-Word-clause-plan : goal.planned-returns-in-Word-clause-plan
planned-returns-in-Word-clause-plan t c = λ l.
    let one = ap length (ap node_keys c.in-Word.is ∙ keys_word c.in-Word.field-0) in
    serves_word c.args.node.now c.word.result.plan c.args.next.now c.in-Word.field-0 c.in-Word.is (c.word.ensures.plan (omega (arith, l, one)))

pub planned-returns-in-Quoted-clause-next : goal.planned-returns-in-Quoted-clause-next
planned-returns-in-Quoted-clause-next t c = λ l.
    let own = ap length (ap node_keys c.in-Quoted.is ∙ keys_quoted c.in-Quoted.keys c.in-Quoted.how ∙ sym c.as_slice.ensures) in
    next_is c.quoted.result c.quoted.new.next c.args.next.now (length c.as_slice.result.now) (length (node_keys c.args.node.now)) own (c.quoted.ensures.next (omega (arith, l, own)))

pub planned-returns-in-Quoted-clause-plan : goal.planned-returns-in-Quoted-clause-plan
planned-returns-in-Quoted-clause-plan t c = λ l.
    let own = ap length (ap node_keys c.in-Quoted.is ∙ keys_quoted c.in-Quoted.keys c.in-Quoted.how ∙ sym c.as_slice.ensures) in
    IfOk-weaker _ _ _ (λ (rated : Rated) serves. serves_quoted c.args.node.now rated.plan c.args.next.now c.in-Quoted.keys c.as_slice.result.now c.in-Quoted.how c.in-Quoted.is c.as_slice.ensures serves) (c.quoted.ensures.plan (omega (arith, l, own)))

pub planned-returns-in-And-clause-next : goal.planned-returns-in-And-clause-next
planned-returns-in-And-clause-next t c = λ l.
    let own = ap length (ap node_keys c.in-And.is ∙ keys_and c.in-And.items ∙ ap items_keys (sym c.as_slice-in-And.ensures)) in
    next_is c.of_items.result c.of_items.new.next c.args.next.now (length (items_keys c.as_slice-in-And.result.now)) (length (node_keys c.args.node.now)) own (c.of_items.ensures.next (omega (arith, l, own)))

pub planned-returns-in-And-clause-plan : goal.planned-returns-in-And-clause-plan
planned-returns-in-And-clause-plan t c = λ l.
    let own = ap length (ap node_keys c.in-And.is ∙ keys_and c.in-And.items ∙ ap items_keys (sym c.as_slice-in-And.ensures)) in
    IfOk-weaker _ _ _ (λ (rated : Rated) serves. serves_and c.args.node.now rated.plan c.args.next.now c.in-And.items c.as_slice-in-And.result.now c.in-And.is c.as_slice-in-And.ensures serves) (c.of_items.ensures.plan (omega (arith, l, own)))

pub planned-returns-in_ok-planned-in-Or-clause-next : goal.planned-returns-in_ok-planned-in-Or-clause-next
planned-returns-in_ok-planned-in-Or-clause-next t c = λ l.
    let own = count_joint c.args.node.now c.in-Or.a c.in-Or.b c.get.result.now c.get-in-Or.result.now (inl c.in-Or.is) c.get.ensures c.get-in-Or.ensures in
    let one = c.in_ok-one-in-Or.ensures.next (omega (arith, l, own)) in
    let other = c.in_ok-planned-in-Or.ensures.next (omega (arith, l, own, one)) in
    on_ok (c.planned-in-Or.new.next ≡ c.args.next.now + length (node_keys c.args.node.now)) c.either.result (omega (arith, own, one, other))

pub planned-returns-in_ok-planned-in-Or-clause-plan : goal.planned-returns-in_ok-planned-in-Or-clause-plan
planned-returns-in_ok-planned-in-Or-clause-plan t c = λ l.
    let own = count_joint c.args.node.now c.in-Or.a c.in-Or.b c.get.result.now c.get-in-Or.result.now (inl c.in-Or.is) c.get.ensures c.get-in-Or.ensures in
    let fits : c.args.next.now + length (node_keys c.get.result.now) ≤ length c.args.counts.now = omega (arith, l, own) in
    let one = c.in_ok-one-in-Or.ensures.next fits in
    let rest : c.planned.new.next + length (node_keys c.get-in-Or.result.now) ≤ length c.args.counts.now = omega (arith, l, own, one) in
    IfOk-weaker _ _ _ (λ (rated : Rated) made.
    serves_or c.args.node.now rated.plan c.args.next.now c.in-Or.a c.in-Or.b c.get.result.now c.get-in-Or.result.now c.get.ensures c.get-in-Or.ensures
    c.in_ok-one-in-Or.one.plan c.in_ok-planned-in-Or.field-0.plan c.planned.new.next c.in-Or.is made one (c.in_ok-one-in-Or.ensures.plan fits) (c.in_ok-planned-in-Or.ensures.plan rest))
    c.either.ensures

pub planned-returns-in_ok-left-in-Maybe-clause-next : goal.planned-returns-in_ok-left-in-Maybe-clause-next
planned-returns-in_ok-left-in-Maybe-clause-next t c = λ l.
    let own = count_joint c.args.node.now c.in-Maybe.a c.in-Maybe.b c.get-in-Maybe.result.now c.get-in-Maybe-2.result.now (inr (inl c.in-Maybe.is)) c.get-in-Maybe.ensures c.get-in-Maybe-2.ensures in
    let one = c.in_ok-left-in-Maybe.ensures.next (omega (arith, l, own)) in
    omega (arith, l, own, one, c.key_count.ensures, c.saturating_add.ensures, c.requires)

pub planned-returns-in_ok-left-in-Maybe-clause-plan : goal.planned-returns-in_ok-left-in-Maybe-clause-plan
planned-returns-in_ok-left-in-Maybe-clause-plan t c = λ l.
    let own = count_joint c.args.node.now c.in-Maybe.a c.in-Maybe.b c.get-in-Maybe.result.now c.get-in-Maybe-2.result.now (inr (inl c.in-Maybe.is)) c.get-in-Maybe.ensures c.get-in-Maybe-2.ensures in
    serves_maybe c.args.node.now c.in_ok-left-in-Maybe.left.plan c.args.next.now c.in-Maybe.a c.in-Maybe.b c.get-in-Maybe.result.now c.get-in-Maybe-2.result.now c.get-in-Maybe.ensures c.get-in-Maybe-2.ensures c.in-Maybe.is
    (c.in_ok-left-in-Maybe.ensures.plan (omega (arith, l, own)))

pub planned-returns-in-ZoneSpan-clause-next : goal.planned-returns-in-ZoneSpan-clause-next
planned-returns-in-ZoneSpan-clause-next t c = λ l.
    let own = ap length (ap node_keys c.in-ZoneSpan.is ∙ keys_span c.in-ZoneSpan.field-0 c.in-ZoneSpan.a ∙ ap node_keys (sym c.get-in-ZoneSpan.ensures)) in
    next_is c.planned-in-ZoneSpan.result c.planned-in-ZoneSpan.new.next c.args.next.now (length (node_keys c.get-in-ZoneSpan.result.now)) (length (node_keys c.args.node.now)) own (c.planned-in-ZoneSpan.ensures.next (omega (arith, l, own)))

pub planned-returns-in-ZoneSpan-clause-plan : goal.planned-returns-in-ZoneSpan-clause-plan
planned-returns-in-ZoneSpan-clause-plan t c = λ l.
    let own = ap length (ap node_keys c.in-ZoneSpan.is ∙ keys_span c.in-ZoneSpan.field-0 c.in-ZoneSpan.a ∙ ap node_keys (sym c.get-in-ZoneSpan.ensures)) in
    IfOk-weaker _ _ _ (λ (rated : Rated) serves. serves_span c.args.node.now rated.plan c.args.next.now c.in-ZoneSpan.field-0 c.in-ZoneSpan.a c.get-in-ZoneSpan.result.now c.in-ZoneSpan.is c.get-in-ZoneSpan.ensures serves)
    (c.planned-in-ZoneSpan.ensures.plan (omega (arith, l, own)))

pub planned-returns-in_ok-put-in-Before-2-clause-next : goal.planned-returns-in_ok-put-in-Before-2-clause-next
planned-returns-in_ok-put-in-Before-2-clause-next t c = λ l.
    let own = count_joint c.args.node.now c.in-Before.a c.in-Before.b c.get-in-Before.result.now c.get-in-Before-2.result.now (inr (inr c.in-Before.is)) c.get-in-Before.ensures c.get-in-Before-2.ensures in
    let one = c.in_ok-planned-in-Before.ensures.next (omega (arith, l, own)) in
    omega (arith, own, one, c.in_ok-planned-in-Before-2.ensures.next (omega (arith, l, own, one)))

pub planned-returns-in_ok-put-in-Before-2-clause-plan : goal.planned-returns-in_ok-put-in-Before-2-clause-plan
planned-returns-in_ok-put-in-Before-2-clause-plan t c = λ l.
    let own = count_joint c.args.node.now c.in-Before.a c.in-Before.b c.get-in-Before.result.now c.get-in-Before-2.result.now (inr (inr c.in-Before.is)) c.get-in-Before.ensures c.get-in-Before-2.ensures in
    let fits : c.args.next.now + length (node_keys c.get-in-Before.result.now) ≤ length c.args.counts.now = omega (arith, l, own) in
    let one = c.in_ok-planned-in-Before.ensures.next fits in
    let rest : c.planned-in-Before.new.next + length (node_keys c.get-in-Before-2.result.now) ≤ length c.args.counts.now = omega (arith, l, own, one) in
    let p = c.in_ok-planned-in-Before.field-0.plan in
    let q = c.in_ok-planned-in-Before-2.field-0.plan in
    serves_ordered c.args.node.now c.all.result.plan c.args.next.now c.in-Before.a c.in-Before.b c.get-in-Before.result.now c.get-in-Before-2.result.now c.get-in-Before.ensures c.get-in-Before-2.ensures
    p q c.planned-in-Before.new.next c.put-in-Before.new.self.plans.items c.in-Before.is c.all.ensures
    (λ h. c.in_ok-put-in-Before-2.ensures h ∙ ap (λ b. h q && b) (c.in_ok-put-in-Before.ensures h ∙ ap (λ (parts : List Plan). h p && list_all h parts) c.new-parts.ensures))
    one (c.in_ok-planned-in-Before.ensures.plan fits) (c.in_ok-planned-in-Before-2.ensures.plan rest)
