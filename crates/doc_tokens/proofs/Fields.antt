-- What is found of a text is a field.
use Rattle.std.proofs.Common.{◌≡◌, ℕ, zero, suc, ◌+◌, ◌-◌, ◌<◌, ◌≤◌, true, false, cond, List, [], ◌∷◌, ◌++◌, All, length, map, get_or, take, drop, sym, ◌∙◌, subst, arith}
use Rattle.std.specs.Prelude.{Any, Contains}
use Rattle.std.specs.List.{AllByRecursion}
use Rattle.std.proofs.lemmas.List.{get_or-map, get_or_default, length-map}
use Rattle.std.proofs.lemmas.List.Elements.{All-from_recursion, recursion_from_All, All-contains_itself, All-weaker, All-take, All-drop, All-contains}
use Rattle.doc_types.specs.declared.tokens.TheConstants.{MAX_POSITION}
use Rattle.doc_types.specs.declared.tokens.Gap.{Gap}
use Rattle.doc_types.specs.declared.tokens.Gap.TheVariants as gaps
use Rattle.doc_types.specs.declared.tokens.TokenWord.{TokenWord}
use Rattle.doc_types.specs.declared.tokens.ZoneSpan.{ZoneSpan}
use Rattle.doc_types.specs.Documents.{step, IsWord, Follow, ArePlaced, IsSpanOver, IsField}
use Rattle.doc_tokens.specs.declared.sign.TextSign.{TextSign}
use Rattle.doc_tokens.specs.declared.sign.TextSign.TheVariants as signs
use Rattle.doc_tokens.specs.declared.sign.ZoneTag.{ZoneTag}
use Rattle.doc_tokens.specs.Words.{Segment, run, other, end_of, stronger}
use Rattle.doc_tokens.specs.Spans.{tag_of, tags_after, zone_end, last_of, span_over, span_within, spans_of}
use Rattle.doc_tokens.specs.Tokens.{AreSpans}
use Rattle.doc_tokens.specs.steps.TokenReader.{gap_after, words_after, all_words}
use Rattle.doc_tokens.proofs.WordLists.{all_placed}

-- a tag doesn't stand after more words than there are
tag_count : (count all : ℕ) (sign : TextSign) → count ≤ all → AllByRecursion (λ tag. tag.words ≤ all) (tag_of count sign)
tag_count count all (signs.Letter c) within = tt
tag_count count all signs.Separator within = tt
tag_count count all signs.Sentence within = tt
tag_count count all signs.Paragraph within = tt
tag_count count all (signs.Open zone) within = (within, tt)
tag_count count all (signs.Close zone) within = (within, tt)

each_append : (all : ℕ) (first second : List ZoneTag) → AllByRecursion (λ tag. tag.words ≤ all) first → AllByRecursion (λ tag. tag.words ≤ all) second → AllByRecursion (λ tag. tag.words ≤ all) (first ++ second)
each_append all [] second has beyond = beyond
each_append all (tag ∷ first) second has beyond = (has.0, each_append all first second has.1 beyond)

tag_counts : (count all position : ℕ) (gap : Gap) (segments : List Segment) → count + length (words_after position gap segments) ≤ all → AllByRecursion (λ tag. tag.words ≤ all) (tags_after count segments)
tag_counts count all position gap [] within = tt
tag_counts count all position gap (run letters ∷ segments) within = tag_counts (count + 1) all (position + step (gap_after position gap)) gaps.None segments (omega (arith, within))
tag_counts count all position gap (other sign ∷ segments) within =
    each_append all (tag_of count sign) (tags_after count segments) (tag_count count all sign (omega (arith, within))) (tag_counts count all position (stronger gap (end_of sign)) segments within)

pub tags_within : (segments : List Segment) → All (λ tag. tag.words ≤ length (all_words segments)) (tags_after 0 segments)
tags_within segments = All-from_recursion (λ (t : ZoneTag). t.words ≤ length (all_words segments)) (tags_after 0 segments) (tag_counts 0 (length (all_words segments)) 0 gaps.None segments (omega arith))

-- positions that don't fall
abbrev Rise : ℕ → List ℕ → Type 0
Rise low [] = Unit {0}
Rise low (position ∷ rest) = (low ≤ position) × Rise position rest

rise_weaker : (low mid : ℕ) (positions : List ℕ) → low ≤ mid → Rise mid positions → Rise low positions
rise_weaker low mid [] below rise = tt
rise_weaker low mid (position ∷ rest) below rise = let from = rise.0 in (omega (arith, from), rise.1)

rise_take : (low n : ℕ) (positions : List ℕ) → Rise low positions → Rise low (take n positions)
rise_take low zero positions rise = tt
rise_take low (suc n) [] rise = tt
rise_take low (suc n) (position ∷ rest) rise = (rise.0, rise_take position n rest rise.1)

rise_drop : (low n : ℕ) (positions : List ℕ) → Rise low positions → Rise low (drop n positions)
rise_drop low zero positions rise = rise
rise_drop low (suc n) [] rise = tt
rise_drop low (suc n) (position ∷ rest) rise = rise_drop low n rest (rise_weaker low position rest rise.0 rise.1)

rise_last : (first : ℕ) (rest : List ℕ) → Rise first rest → first ≤ last_of first rest
rise_last first [] rise = omega arith
rise_last first (next ∷ rest) rise = let from = rise.0 in let further = rise_last next rest rise.1 in omega (arith, from, further)

follow_rise : (before : ℕ) (words : List TokenWord) → Follow before words → Rise before (map (λ (w : TokenWord). w.position) words)
follow_rise before [] follow = tt
follow_rise before (word ∷ words) follow = let is = follow.0 in (omega (arith, is), follow_rise word.position words follow.1)

-- a position of a word
at_word : (words : List TokenWord) (position : ℕ) → Contains (map (λ (w : TokenWord). w.position) words) position → Any (λ (w : TokenWord). w.position ≡ position) words
at_word words position (k, below, is) =
    let none : TokenWord = record { word = []; position = 0; gap = gaps.None } in
    let word = get_or words k none in
    let size = length-map words (λ (w : TokenWord). w.position) in
    let within : k < length words = omega (arith, size, below) in
    (k, word, within, get_or_default words k word none within, sym (get_or-map (λ (w : TokenWord). w.position) words k none position within) ∙ is)

last_in : (P : ℕ → Type 0) (first : ℕ) (rest : List ℕ) → P first → AllByRecursion P rest → P (last_of first rest)
last_in P first [] here beyond = here
last_in P first (next ∷ rest) here beyond = last_in P next rest beyond.0 beyond.1

-- the span over some positions of words
over_some : (words : List TokenWord) (zone low : ℕ) (positions : List ℕ) → Rise low positions → AllByRecursion (Contains (map (λ (w : TokenWord). w.position) words)) positions → AllByRecursion (IsSpanOver words) (span_over zone positions)
over_some words zone low [] rise in_words = tt
over_some words zone low (first ∷ rest) rise in_words = (
  record {
    order = rise_last first rest rise.1;
    begins = at_word words first in_words.0;
    ends = at_word words (last_of first rest) (last_in (Contains (map (λ (w : TokenWord). w.position) words)) first rest in_words.0 in_words.1);
  },
  tt,
)

over_tag : (words : List TokenWord) (tag : ZoneTag) (end : ℕ) → Rise 0 (map (λ (w : TokenWord). w.position) words) → AllByRecursion (IsSpanOver words) (span_within (map (λ (w : TokenWord). w.position) words) tag end)
over_tag words tag end rise =
    let positions = map (λ (w : TokenWord). w.position) words in
    let part = take (end - tag.words) (drop tag.words positions) in
    let risen : Rise 0 part = rise_take 0 (end - tag.words) (drop tag.words positions) (rise_drop 0 tag.words positions rise) in
    let in_words = recursion_from_All (Contains positions) part (All-take (Contains positions) (end - tag.words) (drop tag.words positions) (All-drop (Contains positions) tag.words positions (All-contains_itself positions))) in
    elim tag.opens as (λ b. AllByRecursion (IsSpanOver words) (cond b (span_over tag.zone part) [])) [ true ↦ over_some words tag.zone 0 part risen in_words | false ↦ tt ]

spans_append : (words : List TokenWord) (first second : List ZoneSpan) → AllByRecursion (IsSpanOver words) first → AllByRecursion (IsSpanOver words) second → AllByRecursion (IsSpanOver words) (first ++ second)
spans_append words [] second has beyond = beyond
spans_append words (span ∷ first) second has beyond = (has.0, spans_append words first second has.1 beyond)

over_tags : (words : List TokenWord) (tags : List ZoneTag) → Rise 0 (map (λ (w : TokenWord). w.position) words) → AllByRecursion (IsSpanOver words) (spans_of (map (λ (w : TokenWord). w.position) words) tags)
over_tags words [] rise = tt
over_tags words (tag ∷ tags) rise =
    let positions = map (λ (w : TokenWord). w.position) words in
    spans_append words (span_within positions tag (zone_end tag.zone (length positions) tags)) (spans_of positions tags) (over_tag words tag (zone_end tag.zone (length positions) tags) rise) (over_tags words tags rise)

-- what is found is a field
pub found_field : (segments : List Segment) (tags : List ZoneTag) (words : List TokenWord) (spans : List ZoneSpan) → words ≡ all_words segments
    → All (λ word. word.position ≤ MAX_POSITION) words → All (λ word. IsWord word.word) words → AreSpans (map (λ word. word.position) words) tags spans → IsField (record { words = words; spans = spans })
found_field segments tags words spans are below sound found =
    let placed = subst (λ (ws : List TokenWord). ArePlaced ws) (sym are) (all_placed segments) in
    let positions = map (λ (w : TokenWord). w.position) words in
    let over = All-from_recursion (IsSpanOver words) (spans_of positions tags) (over_tags words tags (follow_rise 0 words placed.follow)) in
    record {
      words = sound;
      placed = placed;
      within = below;
      spans = All-weaker (Contains spans) (IsSpanOver words) (λ s has. All-contains (IsSpanOver words) (spans_of positions tags) s over ((found.same s).0 has)) spans (All-contains_itself spans);
      ascend = found.ascend;
    }
