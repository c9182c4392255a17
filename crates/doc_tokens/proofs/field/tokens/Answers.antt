use Rattle.std.proofs.Common.{ℕ, ◌<◌, ◌≤◌, List, All, length, map, sym, ◌∙◌, ap, subst, arith}
use Rattle.std.proofs.lemmas.List.Elements.{All-weaker}
use Rattle.charset_map.specs.Spans.{folded}
use Rattle.doc_types.specs.declared.tokens.TokenWord.{TokenWord}
use Rattle.doc_types.specs.declared.tokens.TheConstants.{MAX_POSITION}
use Rattle.doc_types.specs.Documents.{IsWord}
use Rattle.doc_tokens.specs.declared.sign.ZoneTag.{ZoneTag}
use Rattle.doc_tokens.specs.Words.{positions_in}
use Rattle.doc_tokens.specs.Spans.{tags_after}
use Rattle.doc_tokens.specs.Tokens.{segments_of, AreWords, AreSpans}
use Rattle.doc_tokens.specs.steps.TokenReader.{all_words}
use Rattle.doc_tokens.proofs.WordLists.{all_positions, all_are_words}
use Rattle.doc_tokens.proofs.ZoneNumbers.{tags_of_zones}
use Rattle.doc_tokens.proofs.Fields.{tags_within, found_field}
use Rattle.doc_tokens.proofs.field.tokens.Goals as goal

pub zone_spans-requires-clause-zones : goal.zone_spans-requires-clause-zones
zone_spans-requires-clause-zones c =
    let fold = folded c.args.charset.now in
    let rules = c.args.rules.now in
    let text = c.args.text.now in
    let marks = c.in_ok-words.ensures.marks in
    let few = c.requires.zones.few in
    let are = c.in_ok-words.ensures.are in
    let tags_are = c.as_slice.ensures.value ∙ c.in_ok-words.ensures.is.tags in
    subst (All (λ (t : ZoneTag). t.zone < 32)) (sym tags_are)
    (All-weaker (λ (t : ZoneTag). t.zone < length rules.zones) (λ (t : ZoneTag). t.zone < 32) (λ t below. omega (arith, few, below)) (tags_after 0 (segments_of fold text marks)) (tags_of_zones fold rules text marks are))

pub zone_spans-requires-clause-counts : goal.zone_spans-requires-clause-counts
zone_spans-requires-clause-counts c =
    let segments = segments_of (folded c.args.charset.now) c.args.text.now c.in_ok-words.ensures.marks in
    let tags_are = c.as_slice.ensures.value ∙ c.in_ok-words.ensures.is.tags in
    let words_are = c.as_slice-2.ensures.value ∙ c.in_ok-words.ensures.is.words in
    subst (λ (ws : List TokenWord). All (λ (t : ZoneTag). t.words ≤ length ws) c.as_slice.result.now) (sym words_are)
    (subst (All (λ (t : ZoneTag). t.words ≤ length (all_words segments))) (sym tags_are) (tags_within segments))

pub returns-clause-tokens : goal.returns-clause-tokens
returns-clause-tokens c =
    let text = c.args.text.now in
    let marks = c.in_ok-words.ensures.marks in
    let segments = segments_of (folded c.args.charset.now) text marks in
    let positions : List TokenWord → List ℕ = map (λ (w : TokenWord). w.position) in
    let found = c.in_ok-words.ensures.is in
    let tags_are = c.as_slice.ensures.value ∙ found.tags in
    let positions_are = ap positions (c.as_slice-2.ensures.value ∙ found.words) ∙ all_positions segments in
    record {
      marks = marks;
      are = c.in_ok-words.ensures.are;
      words = subst (AreWords segments) (sym (c.new.ensures ∙ found.words)) (all_are_words segments);
      spans =
          subst (AreSpans (positions_in segments) (tags_after 0 segments)) (sym c.new-2.ensures)
          (subst (λ (ps : List ℕ). AreSpans ps (tags_after 0 segments) c.in_ok-spans.spans.items) positions_are
          (subst (λ (tags : List ZoneTag). AreSpans (positions c.as_slice-2.result.now) tags c.in_ok-spans.spans.items) tags_are c.in_ok-spans.ensures));
    }

pub returns-clause-field : goal.returns-clause-field
returns-clause-field c =
    let segments = segments_of (folded c.args.charset.now) c.args.text.now c.in_ok-words.ensures.marks in
    let positions : List TokenWord → List ℕ = map (λ (w : TokenWord). w.position) in
    let found = c.in_ok-words.ensures.is in
    let words_are = c.as_slice-2.ensures.value ∙ sym c.new.ensures in
    found_field segments c.as_slice.result.now c.new.result c.new-2.result (c.new.ensures ∙ found.words)
    (subst (All (λ (w : TokenWord). w.position ≤ MAX_POSITION)) (sym c.new.ensures) found.below)
    (subst (All (λ (w : TokenWord). IsWord w.word)) (sym c.new.ensures) found.sound)
    (subst (AreSpans (positions c.new.result) c.as_slice.result.now) (sym c.new-2.ensures)
    (subst (λ (ws : List TokenWord). AreSpans (positions ws) c.as_slice.result.now c.in_ok-spans.spans.items) words_are c.in_ok-spans.ensures))
