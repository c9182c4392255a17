-- Spans over words, tag by tag.
use Rattle.std.proofs.Common.{◌≡◌, ℕ, ◌-◌, ◌<◌, ◌≤◌, Bool, true, false, cond, List, [], ◌∷◌, ◌++◌, All, length, map, get_or, take, drop, set, reverse, eq-eqb, refl, sym, ◌∙◌, ap, subst, arith, inl, inr, ⊎_elim}
use Rattle.std.specs.Prelude.{Contains, ◌↔◌, ◌==◌}
use Rattle.std.proofs.lemmas.Bool.{cases_eq, ne_eqb}
use Rattle.std.proofs.lemmas.List.{get_or-take, get_or-drop, get_or-map, get_or-set_same, get_or-set_other, get_or-reverse, length-reverse, reverse-reverse, drop_all, length-take, length-drop, length-map}
use Rattle.std.proofs.lemmas.List.Elements.{All-head, All-tail, Contains-append_left, Contains-append_right, Contains-append_cases}
use Rattle.doc_types.specs.declared.tokens.TokenWord.{TokenWord}
use Rattle.doc_types.specs.declared.tokens.ZoneSpan.{ZoneSpan}
use Rattle.doc_tokens.specs.declared.sign.ZoneTag.{ZoneTag}
use Rattle.doc_tokens.specs.Spans.{zone_end, last_of, span_over, span_within, spans_of}
use Rattle.doc_types.specs.Documents.{precedes, Ascend}
use Rattle.doc_tokens.specs.Tokens.{AreSpans}
use Rattle.doc_tokens.specs.steps.TokenReader.{Descend, PutsSpans}

-- the last position is the one at the last place
last_at : (first : ℕ) (rest : List ℕ) → last_of first rest ≡ get_or (first ∷ rest) (length rest) 0
last_at first [] = refl
last_at first (next ∷ rest) = last_at next rest

-- the span over positions, by their places
span_some : (zone : ℕ) (positions : List ℕ) → 0 < length positions → span_over zone positions ≡ record { zone = zone; first = get_or positions 0 0; last = get_or positions (length positions - 1) 0 } ∷ []
span_some zone [] some = absurd (omega (arith, some))
span_some zone (first ∷ rest) some =
    let last_is : last_of first rest ≡ get_or (first ∷ rest) (length (first ∷ rest) - 1) 0 = last_at first rest ∙ ap (λ (n : ℕ). get_or (first ∷ rest) n 0) (omega arith) in
    λ i. record { zone = zone; first = first; last = last_is i } ∷ []

-- the span that a tag begins, where it holds a word
pub span_found : (words : List TokenWord) (tag : ZoneTag) (end : ℕ) (first last : TokenWord) → tag.opens ≡ true → tag.words < end → end ≤ length words
    → record { zone = tag.zone; first = (get_or words tag.words first).position; last = (get_or words (end - 1) last).position } ∷ [] ≡ span_within (map (λ (w : TokenWord). w.position) words) tag end
span_found words tag end first last opens some within =
    let at : TokenWord → ℕ = λ w. w.position in
    let positions = map at words in
    let part = take (end - tag.words) (drop tag.words positions) in
    let size = length-map words at in
    let dropped = length-drop tag.words positions in
    let taken = length-take (end - tag.words) (drop tag.words positions) in
    let count : length part ≡ end - tag.words = omega (arith, size, dropped, taken) in
    let at_first : get_or part 0 0 ≡ (get_or words tag.words first).position =
    get_or-take (end - tag.words) (drop tag.words positions) 0 0 (omega arith)
    ∙ get_or-drop tag.words positions 0 0
    ∙ ap (λ (n : ℕ). get_or positions n 0) (omega arith)
    ∙ get_or-map at words tag.words first 0 (omega arith) in
    let at_last : get_or part (length part - 1) 0 ≡ (get_or words (end - 1) last).position =
    ap (λ (n : ℕ). get_or part n 0) (omega (arith, count))
    ∙ get_or-take (end - tag.words) (drop tag.words positions) (end - tag.words - 1) 0 (omega arith)
    ∙ get_or-drop tag.words positions (end - tag.words - 1) 0
    ∙ ap (λ (n : ℕ). get_or positions n 0) (omega arith)
    ∙ get_or-map at words (end - 1) last 0 (omega arith) in
    sym (ap (λ (b : Bool). cond b (span_over tag.zone part) []) opens
    ∙ span_some tag.zone part (omega (arith, count))
    ∙ (λ i. record { zone = tag.zone; first = at_first i; last = at_last i } ∷ []))

-- where an open zone ends isn't beyond the text
pub zone_end_within : (zone all : ℕ) (tags : List ZoneTag) → All (λ (t : ZoneTag). t.words ≤ all) tags → zone_end zone all tags ≤ all
zone_end_within zone all [] within = omega arith
zone_end_within zone all (tag ∷ tags) within =
    let here : tag.words ≤ all = All-head (λ (t : ZoneTag). t.words ≤ all) tag tags within in
    let rest = zone_end_within zone all tags (All-tail (λ (t : ZoneTag). t.words ≤ all) tag tags within) in
    elim (tag.zone == zone) as (λ b. cond b tag.words (zone_end zone all tags) ≤ all) [ true ↦ here | false ↦ rest ]

-- the spans with those of one tag more
pub same_next : (old some new rest : List ZoneSpan) → ((s : ZoneSpan) → Contains old s ↔ Contains rest s) → PutsSpans old some new → (s : ZoneSpan) → Contains new s ↔ Contains (some ++ rest) s
same_next old some new rest same puts s = (
  λ has. ⊎_elim (λ h. Contains-append_right some rest s ((same s).0 h)) (λ h. Contains-append_left some rest s h) ((puts.same s).0 has),
  λ has. (puts.same s).1 (⊎_elim (λ h. inr h) (λ h. inl ((same s).1 h)) (Contains-append_cases some rest s has)),
)

-- one tag more: its zone ends at it
pub ends_next : (ends : List ℕ) (all : ℕ) (tag : ZoneTag) (tags : List ZoneTag) → length ends ≡ 32 → ((zone : ℕ) → zone < 32 → get_or ends zone 0 ≡ zone_end zone all tags) → (zone : ℕ) → zone < 32 → get_or (set ends tag.zone tag.words) zone 0 ≡ zone_end zone all (tag ∷ tags)
ends_next ends all tag tags size has zone below =
    ⊎_elim
    (λ same. ap (λ (n : ℕ). get_or (set ends n tag.words) zone 0) same ∙ get_or-set_same ends zone tag.words 0 (omega (arith, size)) ∙ ap (λ (b : Bool). cond b tag.words (zone_end zone all tags)) (sym (eq-eqb tag.zone zone same)))
    (λ other. get_or-set_other ends tag.zone zone tag.words 0 (λ is. other (sym is)) ∙ has zone below ∙ ap (λ (b : Bool). cond b tag.words (zone_end zone all tags)) (sym (ne_eqb tag.zone zone other)))
    (cases_eq tag.zone zone)

-- at the end of the text each zone ends
pub ends_start : (all zone : ℕ) (tags : List ZoneTag) → all ≡ zone_end zone all (drop (length tags) tags)
ends_start all zone tags = ap (zone_end zone all) (sym (drop_all (length tags) tags (omega arith)))

pub no_spans : (positions : List ℕ) (spans : List ZoneSpan) (tags : List ZoneTag) → spans ≡ [] → (s : ZoneSpan) → Contains spans s ↔ Contains (spans_of positions (drop (length tags) tags)) s
no_spans positions spans tags none s =
    let same = none ∙ ap (spans_of positions) (sym (drop_all (length tags) tags (omega arith))) in (
      λ has. subst (λ (l : List ZoneSpan). Contains l s) same has,
      λ has. subst (λ (l : List ZoneSpan). Contains l s) (sym same) has,
    )

-- all tags were read, and the spans turned round
contains_reverse : (spans : List ZoneSpan) (s : ZoneSpan) → Contains spans s → Contains (reverse spans) s
contains_reverse spans s (k, below, is) =
    let size = length-reverse spans in
    (length spans - 1 - k, omega (arith, size), get_or-reverse spans (length spans - 1 - k) s (omega arith) ∙ ap (λ (n : ℕ). get_or spans n s) (omega arith) ∙ is)

pub ascend_reverse : (spans : List ZoneSpan) → Descend spans → Ascend (reverse spans)
ascend_reverse spans descend = λ i j d order below.
    let size = length-reverse spans in
    let first = get_or-reverse spans i d (omega (arith, size)) in
    let last = get_or-reverse spans j d (omega (arith, size)) in
    let n = length spans in
    subst (λ (s : ZoneSpan). precedes s (get_or (reverse spans) j d) ≡ true) (sym first)
    (subst (λ (s : ZoneSpan). precedes (get_or spans (n - 1 - i) d) s ≡ true) (sym last) (descend (n - 1 - j) (n - 1 - i) d (omega (arith, size)) (omega (arith, size))))

pub all_spans : (positions : List ℕ) (tags : List ZoneTag) (spans : List ZoneSpan) → Descend spans → ((s : ZoneSpan) → Contains spans s ↔ Contains (spans_of positions tags) s) → AreSpans positions tags (reverse spans)
all_spans positions tags spans descend same = record {
  same = λ s. (
    λ has. (same s).0 (subst (λ (l : List ZoneSpan). Contains l s) (reverse-reverse spans) (contains_reverse (reverse spans) s has)),
    λ has. contains_reverse spans s ((same s).1 has),
  );
  ascend = ascend_reverse spans descend;
}
