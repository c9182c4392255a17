use Rattle.std.proofs.Common.{◌≡◌, Bool, [], ◌∷◌, get_or, map, nat_lt, IfOk, refl, sym, ap, ◌∙◌}
use Rattle.std.specs.Prelude.{◌||◌}
use Rattle.std.proofs.lemmas.Bool.{or_left}
use Rattle.query_tree.specs.TreeKeys.{node_keys}
use Rattle.word_rows.specs.Keywords.{Spans}
use Rattle.op_eval.specs.Finding.{Found, any_of, node_finds}
use Rattle.op_eval.specs.steps.Evaluating.{founds_in, part_in}
use Rattle.word_rows.specs.Terms.{IsTermOf}
use Rattle.op_eval.specs.steps.Worded.{how_many}
use Rattle.op_eval.proofs.NodeParts.{all_matches, either_found, items_found, perhaps_found, perhaps_matches, span_found, told_is}
use Rattle.op_eval.proofs.TermParts.{zip_last}
use Rattle.op_eval.proofs.TermPlaces.{node_quoted, node_worded}
use Rattle.op_eval.proofs.Turns.{found_at, told_fails, told_passes}
use Rattle.op_eval.proofs.matching.+matching.Goals as goal

-- ---- the kinds of nodes

pub matches-returns-in-Word-clause-told : goal.matches-returns-in-Word-clause-told
matches-returns-in-Word-clause-told t c = λ row number z knows.
    ap (nat_lt 0) (c.standing.ensures ∙ ap (λ (s : Spans). how_many s c.args.terms.now) c.deref.ensures.value)
    ∙ ap (λ (f : Found). f.matches) (node_worded row number c.args.work.now.spans.items c.args.node.now c.in-Word.field-0 c.args.terms.now c.in-Word.is z)

pub matches-returns-in-Quoted-clause-told : goal.matches-returns-in-Quoted-clause-told
matches-returns-in-Quoted-clause-told t c = λ row number z knows.
    told_is c.matches_quoted.result _ _ (ap (λ (f : Found). f.matches) (node_quoted row number c.args.work.now.spans.items c.args.node.now c.in-Quoted.keys c.in-Quoted.how c.args.terms.now c.in-Quoted.is z)) c.matches_quoted.ensures.told

pub matches-returns-in-And-clause-told : goal.matches-returns-in-And-clause-told
matches-returns-in-And-clause-told t c = λ row number z knows.
    items_found row number c.args.marks.now c.args.work.now.spans.items c.args.terms.now (λ (f : Found). IfOk c.matches_all.result (λ told. told ≡ f.matches))
    c.args.node.now c.in-And.items c.as_slice.result.now c.in-And.is c.as_slice.ensures z knows (λ own known.
    told_is c.matches_all.result _ _ (sym (all_matches (map (part_in row number c.args.work.now.spans.items) c.as_slice.result.now))) (c.matches_all.ensures.told row number own known))

pub matches-returns-in-Or-clause-told : goal.matches-returns-in-Or-clause-told
matches-returns-in-Or-clause-told t c = λ row number z knows.
    either_found row number c.args.marks.now c.args.work.now.spans.items c.args.terms.now (λ (f : Found). IfOk c.matches_either.result (λ told. told ≡ f.matches))
    c.args.node.now c.in-Or.a c.in-Or.b c.get.result.now c.get-in-Or.result.now c.in-Or.is c.get.ensures c.get-in-Or.ensures z knows (c.matches_either.ensures.told row number)

pub matches-returns-in-Maybe-clause-told : goal.matches-returns-in-Maybe-clause-told
matches-returns-in-Maybe-clause-told t c = λ row number z knows.
    perhaps_found row number c.args.marks.now c.args.work.now.spans.items c.args.terms.now (λ (f : Found). IfOk c.matches_perhaps.result (λ told. told ≡ f.matches))
    c.args.node.now c.in-Maybe.a c.in-Maybe.b c.get-in-Maybe.result.now c.get-in-Maybe-2.result.now c.in-Maybe.is c.get-in-Maybe.ensures c.get-in-Maybe-2.ensures z knows (c.matches_perhaps.ensures.told row number)

pub matches-returns-in-ZoneSpan-clause-told : goal.matches-returns-in-ZoneSpan-clause-told
matches-returns-in-ZoneSpan-clause-told t c = λ row number z knows.
    span_found row number c.args.marks.now c.args.work.now.spans.items c.args.terms.now (λ (f : Found). IfOk c.matches_span.result (λ told. told ≡ f.matches))
    c.args.node.now c.in-ZoneSpan.zones c.as_slice-in-ZoneSpan.result.now c.in-ZoneSpan.a c.get-in-ZoneSpan.result.now c.in-ZoneSpan.is c.as_slice-in-ZoneSpan.ensures c.get-in-ZoneSpan.ensures z knows (c.matches_span.ensures.told row number)

-- ---- two nodes

pub matches_either-returns-then-first-clause-told : goal.matches_either-returns-then-first-clause-told
matches_either-returns-then-first-clause-told t c = λ row number z left right.
    let parts = zip_last (IsTermOf row number) (node_keys c.args.a.now) (node_keys c.args.b.now) c.args.terms.now c.terms_last.result.0.now c.terms_last.result.1.now z c.terms_last.ensures.whole c.terms_last.ensures.own in
    sym (or_left (node_finds row number c.args.a.now c.args.work.now.spans.items).matches (node_finds row number c.args.b.now c.args.work.now.spans.items).matches (sym (c.in_ok-first.ensures.told row number parts.0 left) ∙ c.if-first.true))

pub matches_either-returns-clause-told : goal.matches_either-returns-clause-told
matches_either-returns-clause-told t c = λ row number z left right.
    let parts = zip_last (IsTermOf row number) (node_keys c.args.a.now) (node_keys c.args.b.now) c.args.terms.now c.terms_last.result.0.now c.terms_last.result.1.now z c.terms_last.ensures.whole c.terms_last.ensures.own in
    let second = (node_finds row number c.args.b.now c.args.work.now.spans.items).matches in
    told_is c.matches-2.result _ _
    (ap (λ (s : Spans). (node_finds row number c.args.b.now s).matches) c.in_ok-first.ensures.spans ∙ sym (ap (λ (b : Bool). b || second) (sym (c.in_ok-first.ensures.told row number parts.0 left) ∙ c.if-first.false)))
    (c.matches-2.ensures.told row number parts.1 right)

pub matches_perhaps-returns-clause-told : goal.matches_perhaps-returns-clause-told
matches_perhaps-returns-clause-told t c = λ row number z left right.
    let parts = zip_last (IsTermOf row number) (node_keys c.args.a.now) (node_keys c.args.b.now) c.args.terms.now c.terms_last.result.0.now c.terms_last.result.1.now z c.terms_last.ensures.whole c.terms_last.ensures.own in
    told_is c.matches.result _ _ (sym (perhaps_matches (node_finds row number c.args.a.now c.args.work.now.spans.items) (node_finds row number c.args.b.now c.args.work.now.spans.items))) (c.matches.ensures.told row number parts.0 left)

-- ---- items of an AND

pub matches_all-returns-then-found-item-clause-told : goal.matches_all-returns-then-found-item-clause-told
matches_all-returns-then-found-item-clause-told t c = λ row number z knows.
    told_fails row number c.args.marks.now c.args.work.now.spans.items c.args.items.now c.loop-item.item-index c.item-item.result c.loop-item-test.true c.item-item.is
    c.loop-item.rest.now c.terms_first.result.0.now c.terms_first.result.1.now c.terms_first.ensures.whole c.terms_first.ensures.own
    c.in_ok-found.found knows (c.loop-item.invariant.told row number z knows)
    (λ own known. c.in_ok-found.ensures.told row number own known ∙ ap (λ (s : Spans). (node_finds row number c.item-item.result.node s).matches) c.loop-item.invariant.spans)
    c.if-found-item.true

pub matches_all-loop-item-preserved : goal.matches_all-loop-item-preserved
matches_all-loop-item-preserved t c = record {
  placed = c.terms_first.ensures.last;
  spans = c.in_ok-found.ensures.spans ∙ c.loop-item.invariant.spans;
  told = λ row number z knows.
      told_passes row number c.args.marks.now c.args.work.now.spans.items c.args.items.now c.loop-item.item-index c.item-item.result c.loop-item-test.true c.item-item.is
      c.loop-item.rest.now c.terms_first.result.0.now c.terms_first.result.1.now c.terms_first.ensures.whole c.terms_first.ensures.own
      c.in_ok-found.found knows (c.loop-item.invariant.told row number z knows)
      (λ own known. c.in_ok-found.ensures.told row number own known ∙ ap (λ (s : Spans). (node_finds row number c.item-item.result.node s).matches) c.loop-item.invariant.spans)
      c.if-found-item.false;
}

-- ---- spans of zones

pub matches_span-returns-then-found-clause-told : goal.matches_span-returns-then-found-clause-told
matches_span-returns-then-found-clause-told t c = λ row number z knows.
    let all = c.deref-span-items.result.now in
    let span = get_or all c.loop-span.span-index (0, record { zone = 0; first = 0; last = 0 }) in
    let told = λ (s : Spans). (any_of (founds_in row number c.args.node.now s c.args.zones.now (span ∷ []))).matches in
    found_at row number c.args.node.now c.args.work.now.spans.items c.args.zones.now all c.loop-span.span-index span (0, record { zone = 0; first = 0; last = 0 }) c.loop-span-test.true refl
    (ap told (sym c.loop-span.invariant.spans) ∙ sym (c.in_ok-found.ensures.told row number z knows) ∙ c.if-found.true)
    ∙ ap (λ (s : Spans). (any_of (founds_in row number c.args.node.now c.args.work.now.spans.items c.args.zones.now s)).matches) c.deref-span-items.ensures.value
