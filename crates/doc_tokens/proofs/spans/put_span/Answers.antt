use Rattle.std.proofs.Common.{◌≡◌, ◌<◌, ◌≤◌, ◌-◌, ◌∷◌, [], List, true, length, get_or, sym, ◌∙◌, ap, subst, arith}
use Rattle.std.proofs.lemmas.List.{get_or_read}
use Rattle.doc_types.specs.declared.tokens.ZoneSpan.{ZoneSpan}
use Rattle.doc_types.specs.Documents.{precedes}
use Rattle.doc_tokens.specs.steps.TokenReader.{IsPlaceFor, PutsSpans}
use Rattle.doc_tokens.proofs.SpanOrder.{span_there, span_put}
use Rattle.doc_tokens.proofs.spans.put_span.Goals as goal
use Rattle.doc_tokens.proofs.spans.put_span.Goals.{else-at-gt0-via-then-at-gt0+else-not-precedes, else-at-gt0-via-else-at-gt0}

pub returns-then-not-precedes : goal.returns-then-not-precedes
returns-then-not-precedes c =
    let spans = c.args.spans.now.items in
    let at = c.place_for-at.result in
    let place = subst (λ (l : List ZoneSpan). IsPlaceFor l c.args.span at) c.as_slice.ensures.value c.place_for-at.ensures.place in
    let within = subst (λ (l : List ZoneSpan). at ≤ length l) c.as_slice.ensures.value c.place_for-at.ensures.within in
    span_there spans c.args.span c.index.result.now at c.requires place c.if-at-gt0.true within c.index.ensures (sym c.precedes.ensures ∙ c.if-not-precedes.true)

pub returns : goal.returns
returns c =
    let spans = c.args.spans.now.items in
    let at = c.place_for-at.result in
    let place = subst (λ (l : List ZoneSpan). IsPlaceFor l c.args.span at) c.as_slice.ensures.value c.place_for-at.ensures.place in
    let within = subst (λ (l : List ZoneSpan). at ≤ length l) c.as_slice.ensures.value c.place_for-at.ensures.within in
    let above : (d : ZoneSpan) → 0 < at → precedes c.args.span (get_or spans (at - 1) d) ≡ true = λ d some.
    elim c.else-at-gt0.branch [
      | else-at-gt0-via-then-at-gt0+else-not-precedes w ↦ ap (precedes c.args.span) (sym (get_or_read spans (at - 1) w.index.result.now (omega (arith, some, within)) w.index.ensures d)) ∙ sym w.precedes.ensures ∙ w.if-not-precedes.false
      | else-at-gt0-via-else-at-gt0 w ↦ absurd (omega (arith, some))
    ] in
    subst (PutsSpans spans (c.args.span ∷ [])) (sym c.in_ok-insert.ensures.items) (span_put spans c.args.span at c.requires place within above)
