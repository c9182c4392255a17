use Rattle.std.proofs.Common.{Bool, ◌≡◌, sym, ap, ◌∙◌}
use Rattle.std.specs.Prelude.{◌||◌}
use Rattle.std.specs.List.{list_any}
use Rattle.query_tree.specs.declared.query.Item.{Item}
use Rattle.query_tree.specs.declared.query.Node.{Node}
use Rattle.word_rows.specs.RowMarks.{asks_boundaries, asks_spans, has_zones}
use Rattle.word_rows.proofs.MarkedNodes.{bounds_word, bounds_quoted, bounds_and, bounds_span, zones_word, zones_quoted, zones_and, zones_span}
use Rattle.word_rows.proofs.JoinedNodes.{bounds_plain, zones_plain, bounds_bounded, zones_bounded}
use Rattle.word_rows.proofs.asking.+asking.Goals as goal

-- what either of two nodes asks for, which are read behind references
either_asks : (asks : Node → Bool) (a b first second : Node) (x y : Bool) → first ≡ a → second ≡ b → x ≡ asks first → y ≡ asks second → (x || y) ≡ (asks a || asks b)
either_asks asks a b first second x y is_a is_b told_a told_b =
    ap (λ t. t || y) (told_a ∙ ap asks is_a) ∙ ap (λ t. asks a || t) (told_b ∙ ap asks is_b)

pub asks_for-returns-in-Word-clause-boundaries : goal.asks_for-returns-in-Word-clause-boundaries
asks_for-returns-in-Word-clause-boundaries t c = c.of_key.ensures.boundaries ∙ sym (ap asks_boundaries c.in-Word.is ∙ bounds_word _)

pub asks_for-returns-in-Word-clause-spans : goal.asks_for-returns-in-Word-clause-spans
asks_for-returns-in-Word-clause-spans t c = c.of_key.ensures.spans ∙ sym (ap asks_spans c.in-Word.is ∙ zones_word _)

pub asks_for-returns-in-Quoted-clause-boundaries : goal.asks_for-returns-in-Quoted-clause-boundaries
asks_for-returns-in-Quoted-clause-boundaries t c = c.of_keys.ensures.boundaries ∙ sym (ap asks_boundaries c.in-Quoted.is ∙ bounds_quoted _ _)

pub asks_for-returns-in-Quoted-clause-spans : goal.asks_for-returns-in-Quoted-clause-spans
asks_for-returns-in-Quoted-clause-spans t c =
    c.of_keys.ensures.spans ∙ ap (list_any has_zones) c.as_slice.ensures ∙ sym (ap asks_spans c.in-Quoted.is ∙ zones_quoted _ _)

pub asks_for-returns-in-And-clause-boundaries : goal.asks_for-returns-in-And-clause-boundaries
asks_for-returns-in-And-clause-boundaries t c =
    c.of_items.ensures.boundaries ∙ ap (list_any (λ (item : Item). asks_boundaries item.node)) c.as_slice-in-And.ensures ∙ sym (ap asks_boundaries c.in-And.is ∙ bounds_and _)

pub asks_for-returns-in-And-clause-spans : goal.asks_for-returns-in-And-clause-spans
asks_for-returns-in-And-clause-spans t c =
    c.of_items.ensures.spans ∙ ap (list_any (λ (item : Item). asks_spans item.node)) c.as_slice-in-And.ensures ∙ sym (ap asks_spans c.in-And.is ∙ zones_and _)

pub asks_for-returns-in-ZoneSpan-clause-boundaries : goal.asks_for-returns-in-ZoneSpan-clause-boundaries
asks_for-returns-in-ZoneSpan-clause-boundaries t c =
    c.asks_for.ensures.boundaries ∙ ap asks_boundaries c.get.ensures ∙ sym (ap asks_boundaries c.in-ZoneSpan.is ∙ bounds_span _ _)

pub asks_for-returns-in-ZoneSpan-clause-spans : goal.asks_for-returns-in-ZoneSpan-clause-spans
asks_for-returns-in-ZoneSpan-clause-spans t c = sym (ap asks_spans c.in-ZoneSpan.is ∙ zones_span _ _)

pub asks_for-returns-in-Sentence-clause-boundaries : goal.asks_for-returns-in-Sentence-clause-boundaries
asks_for-returns-in-Sentence-clause-boundaries t c = sym (bounds_bounded c.args.node.now _ _ c.in-Sentence.is)

pub asks_for-returns-in-Sentence-clause-spans : goal.asks_for-returns-in-Sentence-clause-spans
asks_for-returns-in-Sentence-clause-spans t c =
    c.or-both.ensures.spans
    ∙ either_asks asks_spans c.in-Sentence.a c.in-Sentence.b c.get-in-Sentence.result.now c.get-in-Sentence-2.result.now c.asks_for-in-Sentence.result.spans c.asks_for-in-Sentence-2.result.spans
    c.get-in-Sentence.ensures c.get-in-Sentence-2.ensures c.asks_for-in-Sentence.ensures.spans c.asks_for-in-Sentence-2.ensures.spans
    ∙ sym (zones_bounded c.args.node.now _ _ c.in-Sentence.is)

pub asks_for-returns-in-Or-clause-boundaries : goal.asks_for-returns-in-Or-clause-boundaries
asks_for-returns-in-Or-clause-boundaries t c =
    c.or.ensures.boundaries
    ∙ either_asks asks_boundaries c.in-Or.a c.in-Or.b c.get-in-Or.result.now c.get-in-Or-2.result.now c.asks_for-in-Or.result.boundaries c.asks_for-in-Or-2.result.boundaries
    c.get-in-Or.ensures c.get-in-Or-2.ensures c.asks_for-in-Or.ensures.boundaries c.asks_for-in-Or-2.ensures.boundaries
    ∙ sym (bounds_plain c.args.node.now _ _ c.in-Or.is)

pub asks_for-returns-in-Or-clause-spans : goal.asks_for-returns-in-Or-clause-spans
asks_for-returns-in-Or-clause-spans t c =
    c.or.ensures.spans
    ∙ either_asks asks_spans c.in-Or.a c.in-Or.b c.get-in-Or.result.now c.get-in-Or-2.result.now c.asks_for-in-Or.result.spans c.asks_for-in-Or-2.result.spans
    c.get-in-Or.ensures c.get-in-Or-2.ensures c.asks_for-in-Or.ensures.spans c.asks_for-in-Or-2.ensures.spans
    ∙ sym (zones_plain c.args.node.now _ _ c.in-Or.is)
