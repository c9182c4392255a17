use Rattle.std.proofs.Common.{subst, List}
use Rattle.std.specs.List.{list_all}
use Rattle.query_tree.specs.declared.query.Item.{Item}
use Rattle.word_rows.specs.Terms.{AreSeenIn}
use Rattle.op_eval.specs.steps.Verdicts.{AreApart, Tells, item_passes}
use Rattle.op_eval.proofs.NodeVerdicts.{word_told, quoted_told, and_told, or_judged, maybe_judged, ordered_judged, span_told, item_told, items_told}
use Rattle.op_eval.proofs.TermParts.{items_keys}
use Rattle.op_eval.proofs.verdict.+judging.Goals as goal

pub judge-returns-in-Word : goal.judge-returns-in-Word
judge-returns-in-Word t c = λ row number.
    word_told row number c.args.spanned c.args.node.now c.in-Word.field-0 c.args.terms.now c.of_word.result c.in-Word.is (c.of_word.ensures row c.in-Word.field-0)

pub judge-returns-in-Quoted : goal.judge-returns-in-Quoted
judge-returns-in-Quoted t c = λ row number.
    quoted_told row number c.args.spanned c.args.node.now c.in-Quoted.keys c.in-Quoted.how c.args.terms.now c.of_quoted.result c.in-Quoted.is (c.of_quoted.ensures row number c.in-Quoted.keys)

pub judge-returns-in-And : goal.judge-returns-in-And
judge-returns-in-And t c = λ row number.
    and_told row number c.args.spanned c.args.node.now c.in-And.items c.args.terms.now c.of_items.result c.in-And.is
    (subst (λ (items : List Item). AreApart number (items_keys items) → AreSeenIn row (items_keys items) c.args.terms.now → Tells c.args.spanned (λ spans. list_all (item_passes row number spans) items) c.of_items.result) c.as_slice.ensures
    (c.of_items.ensures row number))

pub judge-returns-in-Or : goal.judge-returns-in-Or
judge-returns-in-Or t c = λ row number.
    or_judged row number c.args.spanned c.args.node.now c.in-Or.a c.in-Or.b c.get-in-Or.result.now c.get.result.now c.get-in-Or-2.result.now c.args.terms.now c.part_last.result.0.now c.part_last.result.1.now
    c.get-in-Or.ensures c.get.ensures c.get-in-Or-2.ensures c.part_last.ensures.whole c.part_last.ensures.own
    c.judge.result c.judge-in-Or.result c.or.result c.in-Or.is (c.judge.ensures row number) (c.judge-in-Or.ensures row number) c.or.ensures

pub judge-returns-in-Maybe : goal.judge-returns-in-Maybe
judge-returns-in-Maybe t c = λ row number.
    let counted = c.get-in-Maybe.result.now in
    let parted = c.part_last-in-Maybe.result in
    maybe_judged row number c.args.spanned c.args.node.now c.in-Maybe.a c.in-Maybe.b c.get-in-Maybe-2.result.now counted counted c.args.terms.now parted.0.now parted.1.now
    c.get-in-Maybe-2.ensures c.get-in-Maybe.ensures c.get-in-Maybe.ensures c.part_last-in-Maybe.ensures.whole c.part_last-in-Maybe.ensures.own
    c.judge-in-Maybe.result c.in-Maybe.is (c.judge-in-Maybe.ensures row number)

pub judge-returns-in-ZoneSpan : goal.judge-returns-in-ZoneSpan
judge-returns-in-ZoneSpan t c = λ row number.
    span_told row number c.args.spanned c.args.node.now _ c.in-ZoneSpan.a c.get-in-ZoneSpan.result.now c.args.terms.now c.judge-in-ZoneSpan.result c.doubted.result c.in-ZoneSpan.is c.get-in-ZoneSpan.ensures
    (c.judge-in-ZoneSpan.ensures row number) c.doubted.ensures

pub judge-returns-in-Before : goal.judge-returns-in-Before
judge-returns-in-Before t c = λ row number.
    let parted = c.part_last-in-Before.result in
    ordered_judged row number c.args.spanned c.args.node.now c.in-Before.a c.in-Before.b c.get-in-Before-2.result.now c.get-in-Before.result.now c.get-in-Before-3.result.now c.args.terms.now parted.0.now parted.1.now
    c.get-in-Before-2.ensures c.get-in-Before.ensures c.get-in-Before-3.ensures c.part_last-in-Before.ensures.whole c.part_last-in-Before.ensures.own
    c.judge-in-Before.result c.judge-in-Before-2.result c.and-both.result c.doubted-in-Before.result c.in-Before.is (c.judge-in-Before.ensures row number) (c.judge-in-Before-2.ensures row number)
    c.and-both.ensures c.doubted-in-Before.ensures

pub of_items-loop-item-preserved : goal.of_items-loop-item-preserved
of_items-loop-item-preserved t c = λ row number apart seen.
    item_told row number c.args.spanned c.args.items.now c.loop-item.item-index c.item-item.result c.loop-item.rest.now c.part_first.result.0.now c.part_first.result.1.now
    c.loop-item.all c.judge-told.result c.of_item.result c.and-all.result c.loop-item-test.true c.item-item.is apart c.part_first.ensures.whole c.part_first.ensures.own
    (c.judge-told.ensures row number) c.of_item.ensures c.and-all.ensures (c.loop-item.invariant row number apart seen)

pub of_items-returns : goal.of_items-returns
of_items-returns t c = λ row number apart seen.
    items_told row number c.args.spanned c.args.items.now c.loop-item.item-index c.loop-item.rest.now c.loop-item.all c.loop-item-test.false (c.loop-item.invariant row number apart seen)
