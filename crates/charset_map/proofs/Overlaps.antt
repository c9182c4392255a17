-- The loop that gathers the spans that share a number with a new one.
use Rattle.std.proofs.Common.{◌≡◌, ◌≢◌, ℕ, zero, suc, ◌+◌, ◌-◌, ◌<◌, ◌≤◌, true, false, cond, ltb, leb, List, [], ◌∷◌, ◌++◌, length, take, drop, get_or, max, refl, sym, ◌∙◌, ap, subst, arith, inl, inr}
use Rattle.std.specs.List.{AllWithin}
use Rattle.std.specs.List.Sorted.{IsPartitionPoint}
use Rattle.std.proofs.Math.ListN.{drop_of_length-le}
use Rattle.std.proofs.Math.Seq.{drop-cons}
use Rattle.std.proofs.lemmas.List.{get_or_default}
use Rattle.std.proofs.lemmas.Bool.{cases_lt, eqb-false, ltb-true, ltb-false, lt-ltb, le-ltb, le-leb, lt-leb}
use Rattle.charset_map.specs.declared.span.Span.{Span}
use Rattle.charset_map.specs.Spans.{number_in, number_of}
use Rattle.charset_map.specs.steps.SpanLists.{IsSound, AreApart, are_alike, joined, with_span, Differ}
use Rattle.charset_map.specs.steps.Placing.{IsPlaceFor}
use Rattle.charset_map.proofs.SpanLemmas.{sound_at, from_at, in_span, number_found}

-- the spans from one place to another are gathered into the whole
pub record Gathers (span : Span) (spans : List Span) (from to : ℕ) (whole : Span) : Type 0 where
  pub parted : IsPartitionPoint (λ old. ltb old.last span.first ≡ true) (λ old. ltb old.last span.first ≡ false) spans from
  pub order : from ≤ to
  pub within : to ≤ length spans
  pub first : whole.first ≤ span.first
  pub last : span.last ≤ whole.last
  pub beyond : (k : ℕ) (d : Span) → to ≤ k → k < length spans → span.last < (get_or spans k d).first → whole.last < (get_or spans k d).first
  pub alike : (k : ℕ) (d : Span) → from ≤ k → k < to → are_alike (get_or spans k d) span ≡ true
  pub new : with_span span spans ≡ take from spans ++ with_span whole (drop to spans)

-- one that ends before
pub with_span_front : (whole old : Span) (spans : List Span) → old.last < whole.first → with_span whole (old ∷ spans) ≡ old ∷ with_span whole spans
with_span_front whole old spans ends =
    ap (λ b. cond b (old ∷ with_span whole spans) (cond (leb old.first whole.last) (with_span (joined whole old) spans) (whole ∷ old ∷ spans))) (lt-ltb old.last whole.first ends)

-- the spans that end below it stay in front
with_span_after : (span : Span) (spans : List Span) (from : ℕ) → from ≤ length spans → AllWithin (λ old. ltb old.last span.first ≡ true) spans 0 from → with_span span spans ≡ take from spans ++ with_span span (drop from spans)
with_span_after span spans zero within low = refl
with_span_after span [] (suc from) within low = absurd (omega arith)
with_span_after span (old ∷ spans) (suc from) within low =
    with_span_front span old spans (ltb-true _ _ (low 0 old (omega arith) (omega arith)))
    ∙ ap (λ ss. old ∷ ss) (with_span_after span spans from (omega arith) (λ k d least below. low (suc k) d (omega arith) (omega arith)))

pub gathers_none : (span : Span) (spans : List Span) (from : ℕ) → from ≤ length spans → IsPartitionPoint (λ old. ltb old.last span.first ≡ true) (λ old. ltb old.last span.first ≡ false) spans from → Gathers span spans from from span
gathers_none span spans from within parted = record {
  parted = parted;
  order = omega arith;
  within = within;
  first = omega arith;
  last = omega arith;
  beyond = λ k d least below far. far;
  alike = λ k d least below. absurd (omega arith);
  new = with_span_after span spans from within parted.0;
}

-- one that begins before the others end
pub with_span_joined : (whole old : Span) (spans : List Span) → whole.first ≤ old.last → old.first ≤ whole.last → with_span whole (old ∷ spans) ≡ with_span (joined whole old) spans
with_span_joined whole old spans ends begins =
    ap (λ b. cond b (old ∷ with_span whole spans) (cond (leb old.first whole.last) (with_span (joined whole old) spans) (whole ∷ old ∷ spans))) (le-ltb old.last whole.first ends)
    ∙ ap (λ b. cond b (with_span (joined whole old) spans) (whole ∷ old ∷ spans)) (le-leb old.first whole.last begins)

-- one that begins after
pub with_span_before : (whole old : Span) (spans : List Span) → whole.first ≤ old.last → whole.last < old.first → with_span whole (old ∷ spans) ≡ whole ∷ old ∷ spans
with_span_before whole old spans ends begins =
    ap (λ b. cond b (old ∷ with_span whole spans) (cond (leb old.first whole.last) (with_span (joined whole old) spans) (whole ∷ old ∷ spans))) (le-ltb old.last whole.first ends)
    ∙ ap (λ b. cond b (with_span (joined whole old) spans) (whole ∷ old ∷ spans)) (lt-leb old.first whole.last begins)

-- earlier spans end before later ones begin
ends_before : (n : ℕ) (spans : List Span) (i j : ℕ) (d : Span) → AreApart n spans → i < j → j < length spans → (get_or spans i d).last < (get_or spans j d).first
ends_before n [] i j d apart order within = absurd (omega arith)
ends_before n (span ∷ spans) i zero d apart order within = absurd (omega arith)
ends_before n (span ∷ spans) zero (suc j) d apart order within = omega (arith, from_at (span.last + 1) spans j d apart.2 (omega arith))
ends_before n (span ∷ spans) (suc i) (suc j) d apart order within = ends_before (span.last + 1) spans i j d apart.2 (omega arith) (omega arith)

-- the spans before a place end before one that stands there
end_before_this : (spans : List Span) (to k : ℕ) (d e : Span) → AreApart 0 spans → k < to → to < length spans → (get_or spans k e).last < (get_or spans to d).first
end_before_this spans to k d e apart order within =
    subst (λ (s : Span). (get_or spans k e).last < s.first) (get_or_default spans to e d within) (ends_before 0 spans k to e apart order within)

-- and those after it begin after its end
begin_after_this : (spans : List Span) (to k : ℕ) (d e : Span) → AreApart 0 spans → to < k → k < length spans → (get_or spans to d).last < (get_or spans k e).first
begin_after_this spans to k d e apart order within =
    subst (λ (s : Span). s.last < (get_or spans k e).first) (get_or_default spans to e d (omega arith)) (ends_before 0 spans to k e apart order within)

pub gathers_more : (span : Span) (spans : List Span) (from to : ℕ) (whole d : Span) → AreApart 0 spans → Gathers span spans from to whole → to < length spans → (get_or spans to d).first ≤ span.last → are_alike (get_or spans to d) span ≡ true → Gathers span spans from (to + 1) (joined whole (get_or spans to d))
gathers_more span spans from to whole d apart g within begins same =
    let old : Span = get_or spans to d in
    let ends : span.first ≤ old.last = ltb-false _ _ (g.parted.1 to d g.order within) in
    record {
      parted = g.parted;
      order = omega (arith, g.order);
      within = omega arith;
      first = omega (arith, g.first);
      last = omega (arith, g.last);
      beyond = λ k e least below far. omega (arith, g.beyond k e (omega arith) below far, begin_after_this spans to k d e apart (omega arith) below);
      alike = λ k e least below. elim (cases_lt k to) [
        | inl earlier ↦ g.alike k e least earlier
        | inr here ↦ (let is : to ≡ k = omega arith in
            let P : ℕ → Type 0 = λ n. are_alike (get_or spans n e) span ≡ true in
            subst P is (subst (λ (s : Span). are_alike s span ≡ true) (get_or_default spans to d e within) same))
      ];
      new =
          let next : suc to ≡ to + 1 = omega arith in
          g.new
          ∙ ap (λ (rest : List Span). take from spans ++ with_span whole rest) (drop-cons spans to d within)
          ∙ ap (λ (rest : List Span). take from spans ++ rest) (with_span_joined whole old (drop (suc to) spans) (omega (arith, ends, g.first)) (omega (arith, begins, g.last)))
          ∙ ap (λ (n : ℕ). take from spans ++ with_span (joined whole old) (drop n spans)) next;
    }

-- after the gathered spans nothing shares a number with the whole
with_span_last : (whole : Span) (spans : List Span) (to : ℕ) → ((d : Span) → to < length spans → whole.first ≤ (get_or spans to d).last) → ((d : Span) → to < length spans → whole.last < (get_or spans to d).first) → with_span whole (drop to spans) ≡ whole ∷ drop to spans
with_span_last whole spans to ends begins = elim (cases_lt to (length spans)) [
  | inl within ↦ (let rest : drop to spans ≡ get_or spans to whole ∷ drop (suc to) spans = drop-cons spans to whole within in
      ap (with_span whole) rest
      ∙ with_span_before whole (get_or spans to whole) (drop (suc to) spans) (ends whole within) (begins whole within)
      ∙ ap (λ (ss : List Span). whole ∷ ss) (sym rest))
  | inr past ↦ (let rest : drop to spans ≡ [] = drop_of_length-le spans past in
      ap (with_span whole) rest ∙ ap (λ (ss : List Span). whole ∷ ss) (sym rest))
]

pub gathered_all : (span : Span) (spans : List Span) (from to : ℕ) (whole : Span) → AreApart 0 spans → Gathers span spans from to whole → ((d : Span) → to < length spans → span.last < (get_or spans to d).first) → IsPlaceFor span spans (record { from = from; to = to; whole = whole })
gathered_all span spans from to whole apart g stop = record {
  order = g.order;
  within = g.within;
  new = sym (g.new ∙ ap (λ (rest : List Span). take from spans ++ rest) (with_span_last whole spans to
      (λ d within. omega (arith, g.first, ltb-false _ _ (g.parted.1 to d g.order within)))
      (λ d within. g.beyond to d (omega arith) within (stop d within))));
  agrees = λ k d below begins ends. elim (cases_lt k from) [
    | inl earlier ↦ absurd (omega (arith, ends, ltb-true _ _ (g.parted.0 k d (omega arith) earlier)))
    | inr from_here ↦ (elim (cases_lt k to) [
      | inl between ↦ g.alike k d from_here between
      | inr beyond ↦ absurd (elim (cases_lt to k) [
        | inl later ↦ omega (arith, begins, stop d (omega arith), begin_after_this spans to k d d apart later below, (sound_at 0 spans to d apart (omega arith)).ordered)
        | inr here ↦ (let is : to ≡ k = omega arith in
            let P : ℕ → Type 0 = λ n. span.last < (get_or spans n d).first in
            let far : P k = subst P is (stop d (omega arith)) in
            omega (arith, begins, far))
      ])
    ])
  ];
}

pub gathers_differ : (span : Span) (spans : List Span) (from to : ℕ) (whole d : Span) → AreApart 0 spans → IsSound span → Gathers span spans from to whole → to < length spans → (get_or spans to d).first ≤ span.last → are_alike (get_or spans to d) span ≡ false → Differ (number_of spans) (number_in span)
gathers_differ span spans from to whole d apart sound g within begins other =
    let old : Span = get_or spans to d in
    let ends : span.first ≤ old.last = ltb-false _ _ (g.parted.1 to d g.order within) in
    let known : IsSound old = sound_at 0 spans to d apart within in
    let n : ℕ = max old.first span.first in
    let apart_values : old.value + span.first ≢ span.value + old.first = eqb-false _ _ other in
    record {
      number = n;
      within = omega (arith, known.within, known.ordered, sound.within, sound.ordered, ends, begins);
      first = old.value + (n - old.first);
      by_first = number_found 0 spans to n d apart within (λ k e least below. lt-ltb _ _ (omega (arith, end_before_this spans to k d e apart below within))) (omega (arith, known.ordered, ends)) (omega arith);
      second = span.value + (n - span.first);
      by_second = in_span span n (omega arith) (omega (arith, sound.ordered, begins));
      differ = λ same. apart_values (omega (arith, same));
    }
