use Rattle.std.proofs.Common.{◌≡◌, ℕ, ◌-◌, ◌<◌, ◌≤◌, List, ◌∷◌, length, map, drop, get_or, set, refl, sym, ◌∙◌, ap, subst, arith}
use Rattle.std.specs.Prelude.{Contains, ◌↔◌, option_to_list, false}
use Rattle.std.proofs.lemmas.List.{get_or-replicate, drop_more, length-set, length-map}
use Rattle.std.proofs.lemmas.List.Elements.{All-get_or, All-drop}
use Rattle.doc_types.specs.declared.tokens.TokenWord.{TokenWord}
use Rattle.doc_types.specs.declared.tokens.ZoneSpan.{ZoneSpan}
use Rattle.doc_tokens.specs.declared.sign.ZoneTag.{ZoneTag}
use Rattle.doc_tokens.specs.Spans.{zone_end, span_within, spans_of}
use Rattle.doc_tokens.specs.steps.TokenReader.{Descend, PutsSpans}
use Rattle.doc_tokens.specs.Tokens.{AreSpans}
use Rattle.doc_tokens.proofs.SpanLists.{zone_end_within, same_next, ends_next, ends_start, no_spans, all_spans}
use Rattle.doc_tokens.proofs.spans.zone_spans.Goals as goal

pub loop-left-init : goal.loop-left-init
loop-left-init c =
    let positions = map (λ (w : TokenWord). w.position) c.args.words.now in
    record {
      within = omega arith;
      size = refl;
      ends = λ zone below. get_or-replicate 32 zone (length c.args.words.now) 0 below ∙ ends_start (length c.args.words.now) zone c.args.tags.now;
      descend = subst Descend (sym c.new-spans.ensures.items) (λ i j d order below. absurd (omega (arith, below)));
      same = no_spans positions c.new-spans.result.items c.args.tags.now c.new-spans.ensures.items;
    }

pub span_from-requires : goal.span_from-requires
span_from-requires c =
    let tags = c.args.tags.now in
    let at = c.loop-left.left - 1 in
    let tag : ZoneTag = get_or tags at (record { zone = 0; opens = false; words = 0 }) in
    let n = length c.args.words.now in
    let within : at < length tags = omega (arith, c.loop-left.invariant.within) in
    let zone : tag.zone < 32 = All-get_or (λ (t : ZoneTag). t.zone < 32) tags at _ within c.requires.zones in
    let counts = All-drop (λ (t : ZoneTag). t.words ≤ n) c.loop-left.left tags c.requires.counts in
    subst (λ (z : ℕ). get_or c.loop-left.ends z 0 ≤ n) (sym c.from-zone.ensures)
    (subst (λ (e : ℕ). e ≤ n) (sym (c.loop-left.invariant.ends tag.zone zone)) (zone_end_within tag.zone n (drop c.loop-left.left tags) counts))

pub loop-left-preserved : goal.loop-left-preserved
loop-left-preserved c =
    let tags = c.args.tags.now in
    let left = c.loop-left.left in
    let at = left - 1 in
    let tag : ZoneTag = get_or tags at (record { zone = 0; opens = false; words = 0 }) in
    let n = length c.args.words.now in
    let positions = map (λ (w : TokenWord). w.position) c.args.words.now in
    let within : at < length tags = omega (arith, c.loop-left.invariant.within) in
    let zone : tag.zone < 32 = All-get_or (λ (t : ZoneTag). t.zone < 32) tags at _ within c.requires.zones in
    let next : drop at tags ≡ tag ∷ drop left tags = drop_more tags at _ within ∙ ap (λ (k : ℕ). tag ∷ drop k tags) (omega arith) in
    let ends = ends_next c.loop-left.ends n tag (drop left tags) c.loop-left.invariant.size c.loop-left.invariant.ends in
    let some : option_to_list c.span_from.result ≡ span_within positions tag (zone_end tag.zone (length positions) (drop left tags)) =
    c.span_from.ensures
    ∙ ap (λ (z : ℕ). span_within positions tag (get_or c.loop-left.ends z 0)) c.from-zone.ensures
    ∙ ap (span_within positions tag) (c.loop-left.invariant.ends tag.zone zone)
    ∙ ap (λ (k : ℕ). span_within positions tag (zone_end tag.zone k (drop left tags))) (sym (length-map c.args.words.now (λ (w : TokenWord). w.position))) in
    let puts = c.in_ok-put_some.ensures in
    record {
      within = omega (arith, c.loop-left.invariant.within);
      size = length-set c.loop-left.ends _ _ ∙ c.loop-left.invariant.size;
      ends = λ z below. ap (λ (k : ℕ). get_or (set c.loop-left.ends k tag.words) z 0) c.from-zone.ensures ∙ ends z below ∙ ap (zone_end z n) (sym next);
      descend = puts.descend;
      same = subst (λ (l : List ZoneTag). (s : ZoneSpan) → Contains c.put_some.new.spans.items s ↔ Contains (spans_of positions l) s) (sym next)
          (same_next c.loop-left.spans.items _ c.put_some.new.spans.items (spans_of positions (drop left tags)) c.loop-left.invariant.same (subst (λ (l : List ZoneSpan). PutsSpans c.loop-left.spans.items l c.put_some.new.spans.items) some puts));
    }

pub returns : goal.returns
returns c =
    let positions = map (λ (w : TokenWord). w.position) c.args.words.now in
    let none : 0 ≡ c.loop-left.left = omega arith in
    subst (AreSpans positions c.args.tags.now) (sym c.reverse.ensures.items)
    (all_spans positions c.args.tags.now c.loop-left.spans.items c.loop-left.invariant.descend
    (subst (λ (k : ℕ). (s : ZoneSpan) → Contains c.loop-left.spans.items s ↔ Contains (spans_of positions (drop k c.args.tags.now)) s) (sym none) c.loop-left.invariant.same))
