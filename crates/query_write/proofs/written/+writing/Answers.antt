use Rattle.std.proofs.Common.{[], ◌∷◌, sym, ap, ◌∙◌}
use Rattle.std.specs.List.{flat_map}
use Rattle.query_write.specs.Written.{WrittenToken, part_of, node_tokens, item_tokens, is_choice, is_order, and_tokens, span_tokens, enclosed}
use Rattle.query_write.specs.steps.Writes.{limit_tokens}
use Rattle.query_write.proofs.WrittenParts.{part_word, part_quoted, part_and, part_or, part_maybe, part_before, part_near, part_sentence, part_paragraph, part_span}
use Rattle.query_write.proofs.Writings.{kept, failed_after, part_kept}
use Rattle.query_write.proofs.WrittenNodes.{as_tokens, one_token, line_joined, leaves_joined, under_some, closed_text}
use Rattle.query_write.proofs.written.+writing.Goals as goal

pub put_inside-returns-in-Word : goal.put_inside-returns-in-Word
put_inside-returns-in-Word t c =
    let fields = c.args.schema.now.fields in
    as_tokens c.args.schema.now _ _ c.args.out.now.items c.put_one.new.out.items c.put_one.result (ap (λ p. p.tokens) (ap (part_of fields) c.in-Word.is ∙ part_word fields _))
    (one_token c.args.schema.now (WrittenToken.Word c.in-Word.key) c.args.out.now.items c.put_one.new.out.items c.put_one.result c.put_one.ensures)

pub put_inside-returns-in-Quoted : goal.put_inside-returns-in-Quoted
put_inside-returns-in-Quoted t c =
    let fields = c.args.schema.now.fields in
    as_tokens c.args.schema.now _ _ c.args.out.now.items c.put_one-in-Quoted.new.out.items c.put_one-in-Quoted.result
    (ap (λ p. p.tokens) (ap (part_of fields) c.in-Quoted.is ∙ part_quoted fields _ _) ∙ ap (λ keys. WrittenToken.Quoted keys c.in-Quoted.how ∷ []) (sym c.as_slice.ensures))
    (one_token c.args.schema.now (WrittenToken.Quoted c.as_slice.result.now c.in-Quoted.how) c.args.out.now.items c.put_one-in-Quoted.new.out.items c.put_one-in-Quoted.result c.put_one-in-Quoted.ensures)

pub put_inside-returns-in-And : goal.put_inside-returns-in-And
put_inside-returns-in-And t c =
    let fields = c.args.schema.now.fields in
    as_tokens c.args.schema.now _ _ c.args.out.now.items c.put_items.new.out.items c.put_items.result
    (ap (λ p. p.tokens) (ap (part_of fields) c.in-And.is ∙ part_and fields _) ∙ ap (λ items. and_tokens (flat_map (item_tokens fields) items)) (sym c.as_slice-in-And.ensures))
    c.put_items.ensures

pub put_inside-returns-in_ok-put_left-in-Or : goal.put_inside-returns-in_ok-put_left-in-Or
put_inside-returns-in_ok-put_left-in-Or t c =
    let fields = c.args.schema.now.fields in
    as_tokens c.args.schema.now _ _ c.args.out.now.items c.put_right.new.out.items c.put_right.result (ap (λ p. p.tokens) (ap (part_of fields) c.in-Or.is ∙ part_or fields _ _))
    (line_joined c.args.schema.now c.args.out.now.items c.put_left.new.out.items c.put_right.new.out.items c.put_right.result is_choice c.in-Or.first c.in-Or.second c.get.result.now c.get-in-Or.result.now c.get-in-Or-2.result.now
    c.is_choice.result WrittenToken.Or c.get.ensures c.get-in-Or.ensures c.get-in-Or-2.ensures (c.is_choice.ensures fields) c.in_ok-put_left-in-Or.ensures c.put_right.ensures)

pub put_inside-returns-in_ok-put_left-in-Maybe : goal.put_inside-returns-in_ok-put_left-in-Maybe
put_inside-returns-in_ok-put_left-in-Maybe t c =
    let fields = c.args.schema.now.fields in
    as_tokens c.args.schema.now _ _ c.args.out.now.items c.put_right-in-Maybe.new.out.items c.put_right-in-Maybe.result (ap (λ p. p.tokens) (ap (part_of fields) c.in-Maybe.is ∙ part_maybe fields _ _))
    (line_joined c.args.schema.now c.args.out.now.items c.put_left-in-Maybe.new.out.items c.put_right-in-Maybe.new.out.items c.put_right-in-Maybe.result is_choice c.in-Maybe.first c.in-Maybe.second c.get-in-Maybe.result.now c.get-in-Maybe-2.result.now c.get-in-Maybe-3.result.now
    c.is_choice-in-Maybe.result WrittenToken.Maybe c.get-in-Maybe.ensures c.get-in-Maybe-2.ensures c.get-in-Maybe-3.ensures (c.is_choice-in-Maybe.ensures fields) c.in_ok-put_left-in-Maybe.ensures c.put_right-in-Maybe.ensures)

pub put_inside-returns-in_ok-put_left-in-Before : goal.put_inside-returns-in_ok-put_left-in-Before
put_inside-returns-in_ok-put_left-in-Before t c =
    let fields = c.args.schema.now.fields in
    as_tokens c.args.schema.now _ _ c.args.out.now.items c.put_right-in-Before.new.out.items c.put_right-in-Before.result (ap (λ p. p.tokens) (ap (part_of fields) c.in-Before.is ∙ part_before fields _ _))
    (line_joined c.args.schema.now c.args.out.now.items c.put_left-in-Before.new.out.items c.put_right-in-Before.new.out.items c.put_right-in-Before.result is_order c.in-Before.first c.in-Before.second c.get-in-Before.result.now c.get-in-Before-2.result.now c.get-in-Before-3.result.now
    c.is_order.result WrittenToken.Before c.get-in-Before.ensures c.get-in-Before-2.ensures c.get-in-Before-3.ensures (c.is_order.ensures fields) c.in_ok-put_left-in-Before.ensures c.put_right-in-Before.ensures)

pub put_inside-returns-in_ok-put_left-in-Near : goal.put_inside-returns-in_ok-put_left-in-Near
put_inside-returns-in_ok-put_left-in-Near t c =
    let fields = c.args.schema.now.fields in
    as_tokens c.args.schema.now _ _ c.args.out.now.items c.put_right-in-Near.new.out.items c.put_right-in-Near.result (ap (λ p. p.tokens) (ap (part_of fields) c.in-Near.is ∙ part_near fields _ _ _))
    (line_joined c.args.schema.now c.args.out.now.items c.put_left-in-Near.new.out.items c.put_right-in-Near.new.out.items c.put_right-in-Near.result is_order c.in-Near.first c.in-Near.second c.get-in-Near.result.now c.get-in-Near-2.result.now c.get-in-Near-3.result.now
    c.is_order-in-Near.result (WrittenToken.Near c.in-Near.most) c.get-in-Near.ensures c.get-in-Near-2.ensures c.get-in-Near-3.ensures (c.is_order-in-Near.ensures fields) c.in_ok-put_left-in-Near.ensures c.put_right-in-Near.ensures)

pub put_inside-returns-in_ok-put_inside-in-Sentence : goal.put_inside-returns-in_ok-put_inside-in-Sentence
put_inside-returns-in_ok-put_inside-in-Sentence t c =
    let fields = c.args.schema.now.fields in
    as_tokens c.args.schema.now _ _ c.args.out.now.items c.put_leaf.new.out.items c.put_leaf.result (ap (λ p. p.tokens) (ap (part_of fields) c.in-Sentence.is ∙ part_sentence fields _ _))
    (leaves_joined c.args.schema.now c.args.out.now.items c.put_inside.new.out.items c.put_leaf.new.out.items c.put_leaf.result c.in-Sentence.first c.in-Sentence.second c.get-in-Sentence.result.now c.get-in-Sentence-2.result.now
    WrittenToken.Sentence c.get-in-Sentence.ensures c.get-in-Sentence-2.ensures c.in_ok-put_inside-in-Sentence.ensures c.put_leaf.ensures)

pub put_inside-returns-in_ok-put_inside-in-Paragraph : goal.put_inside-returns-in_ok-put_inside-in-Paragraph
put_inside-returns-in_ok-put_inside-in-Paragraph t c =
    let fields = c.args.schema.now.fields in
    as_tokens c.args.schema.now _ _ c.args.out.now.items c.put_leaf-in-Paragraph.new.out.items c.put_leaf-in-Paragraph.result (ap (λ p. p.tokens) (ap (part_of fields) c.in-Paragraph.is ∙ part_paragraph fields _ _))
    (leaves_joined c.args.schema.now c.args.out.now.items c.put_inside-in-Paragraph.new.out.items c.put_leaf-in-Paragraph.new.out.items c.put_leaf-in-Paragraph.result c.in-Paragraph.first c.in-Paragraph.second c.get-in-Paragraph.result.now c.get-in-Paragraph-2.result.now
    WrittenToken.Paragraph c.get-in-Paragraph.ensures c.get-in-Paragraph-2.ensures c.in_ok-put_inside-in-Paragraph.ensures c.put_leaf-in-Paragraph.ensures)

pub put_inside-returns-in-ZoneSpan : goal.put_inside-returns-in-ZoneSpan
put_inside-returns-in-ZoneSpan t c =
    let fields = c.args.schema.now.fields in
    as_tokens c.args.schema.now _ _ c.args.out.now.items c.put_span.new.out.items c.put_span.result
    (ap (λ p. p.tokens) (ap (part_of fields) c.in-ZoneSpan.is ∙ part_span fields _ _)
    ∙ ap (λ zones. span_tokens zones (node_tokens fields c.in-ZoneSpan.inner)) (sym c.as_slice-in-ZoneSpan.ensures)
    ∙ ap (λ n. span_tokens c.as_slice-in-ZoneSpan.result.now (node_tokens fields n)) (sym c.get-in-ZoneSpan.ensures))
    c.put_span.ensures

pub put_items-returns-in_err-put_item : goal.put_items-returns-in_err-put_item
put_items-returns-in_err-put_item t c =
    failed_after _ _ c.args.out.now.items c.put_spaced.new.out.items c.put_item.new.out.items c.from_residual-in_err-put_item.result c.from_residual-in_err-put_item.ensures.0 c.in_ok-put_spaced.ensures
    (kept _ c.loop-item.out.items _ (part_kept _ _ _ _ c.loop-item.invariant) c.in_err-put_item.ensures)

pub put_node-returns-in_ok-put_enclosed-in-Some : goal.put_node-returns-in_ok-put_enclosed-in-Some
put_node-returns-in_ok-put_enclosed-in-Some t c =
    let p = part_of c.args.schema.now.fields c.args.node.now in
    let tokens = enclosed p.line p.tokens in
    as_tokens c.args.schema.now _ _ c.args.out.now.items c.put_one-in-Some.new.out.items c.put_one-in-Some.result (under_some c.args.schema.now.fields p.limit c.in-Some.limit.now tokens (sym c.in-Some.ensures))
    (closed_text c.args.schema.now (limit_tokens c.in-Some.limit.now) tokens c.args.out.now.items c.put_one.new.out.items c.put_limit.new.out.items c.put_enclosed-in-Some.new.out.items c.put_one-in-Some.new.out.items c.put_one-in-Some.result
    c.in_ok-put_one-in-Some.ensures c.in_ok-put_limit-in-Some.ensures c.in_ok-put_enclosed-in-Some.ensures c.put_one-in-Some.ensures)

pub put_span-returns : goal.put_span-returns
put_span-returns t c =
    closed_text c.args.schema.now (WrittenToken.Spans c.args.zones.now ∷ WrittenToken.Space ∷ []) (node_tokens c.args.schema.now.fields c.args.inner.now) c.args.out.now.items c.put_one.new.out.items c.put_spaced.new.out.items c.put_node.new.out.items c.put_one-2.new.out.items c.put_one-2.result
    c.in_ok-put_one.ensures c.in_ok-put_spaced.ensures c.in_ok-put_node.ensures c.put_one-2.ensures
