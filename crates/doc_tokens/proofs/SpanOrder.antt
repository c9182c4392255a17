-- Spans in their order.
use Rattle.std.proofs.Common.{◌≡◌, ℕ, ◌+◌, ◌-◌, ◌<◌, ◌≤◌, true, false, List, [], ◌∷◌, length, get_or, refl, sym, ◌∙◌, ap, subst, inl, inr, ⊎_elim, arith}
use Rattle.std.specs.Prelude.{Contains, ◌⊎◌}
use Rattle.std.specs.List.{insert}
use Rattle.std.proofs.lemmas.Bool.{cases_lt}
use Rattle.std.proofs.lemmas.Bool.Decides.{nat_tests}
use Rattle.std.proofs.lemmas.List.Edits.{length-insert, get_or-insert_below, get_or-insert_at, get_or-insert_above}
use Rattle.std.proofs.lemmas.List.Elements.{Contains-get_or}
use Rattle.doc_types.specs.declared.tokens.ZoneSpan.{ZoneSpan}
use Rattle.doc_types.specs.Documents.{precedes}
use Rattle.doc_tokens.specs.steps.TokenReader.{Descend, IsPlaceFor, PutsSpans}

-- the order of spans
pub precedes_trans : (a b c : ZoneSpan) → precedes a b ≡ true → precedes b c ≡ true → precedes a c ≡ true
precedes_trans a b c first second = grind (arith, nat_tests)

same_first : (a b : ZoneSpan) → precedes a b ≡ false → precedes b a ≡ false → a.first ≡ b.first
same_first a b above below = grind (arith, nat_tests)

same_last : (a b : ZoneSpan) → precedes a b ≡ false → precedes b a ≡ false → a.last ≡ b.last
same_last a b above below = grind (arith, nat_tests)

same_zone : (a b : ZoneSpan) → precedes a b ≡ false → precedes b a ≡ false → a.zone ≡ b.zone
same_zone a b above below = grind (arith, nat_tests)

same_span : (a b : ZoneSpan) → precedes a b ≡ false → precedes b a ≡ false → a ≡ b
same_span a b above below =
    let first = same_first a b above below in
    let last = same_last a b above below in
    let zone = same_zone a b above below in
    λ i. record { zone = zone i; first = first i; last = last i }

-- the one element of a list
one_contains : (span other : ZoneSpan) → Contains (span ∷ []) other → span ≡ other
one_contains span other (k, below, is) = let zero : 0 ≡ k = omega (arith, below) in ap (λ (n : ℕ). get_or (span ∷ []) n other) zero ∙ is

contains_one : (span : ZoneSpan) → Contains (span ∷ []) span
contains_one span = (0, omega arith, refl)

-- a span that is there is the one before its place
pub span_there : (spans : List ZoneSpan) (span found : ZoneSpan) (at : ℕ) → Descend spans → IsPlaceFor spans span at → 0 < at → at ≤ length spans → found ≡ get_or spans (at - 1) found → precedes span found ≡ false → PutsSpans spans (span ∷ []) spans
span_there spans span found at descend place some within is not_below =
    let same : found ≡ span = same_span found span (ap (λ (s : ZoneSpan). precedes s span) is ∙ place.before found some) not_below in
    let there : Contains spans span = subst (Contains spans) (sym is ∙ same) (Contains-get_or spans (at - 1) found (omega arith)) in
    record {
      descend = descend;
      same = λ s. (λ has. inl has, λ either. ⊎_elim (λ has. has) (λ one. subst (Contains spans) (one_contains span s one) there) either);
    }

-- where an element of a list with one more stands
place_below : (spans : List ZoneSpan) (span s : ZoneSpan) (at k : ℕ) → at ≤ length spans → k < at → get_or (insert spans at span) k s ≡ s → Contains spans s
place_below spans span s at k within below is = (k, omega arith, sym (get_or-insert_below spans at span s k below within) ∙ is)

place_above : (spans : List ZoneSpan) (span s : ZoneSpan) (at k : ℕ) → at ≤ length spans → at < k → k < length (insert spans at span) → get_or (insert spans at span) k s ≡ s → Contains spans s
place_above spans span s at k within above below is =
    let size = length-insert spans at span within in
    let next : k ≡ (k - 1) + 1 = omega arith in
    (k - 1, omega (arith, size), sym (get_or-insert_above spans at span s (k - 1) (omega arith) within) ∙ ap (λ (n : ℕ). get_or (insert spans at span) n s) (sym next) ∙ is)

from_insert : (spans : List ZoneSpan) (span s : ZoneSpan) (at : ℕ) → at ≤ length spans → Contains (insert spans at span) s → Contains spans s ⊎ Contains (span ∷ []) s
from_insert spans span s at within (k, below, is) =
    ⊎_elim (λ under. inl (place_below spans span s at k within under is))
    (λ over. ⊎_elim (λ beyond. inl (place_above spans span s at k within beyond below is))
    (λ not_beyond. let same : at ≡ k = omega arith in
    inr (subst (Contains (span ∷ [])) (sym (get_or-insert_at spans at span s within) ∙ ap (λ (n : ℕ). get_or (insert spans at span) n s) same ∙ is) (contains_one span)))
    (cases_lt at k))
    (cases_lt k at)

to_insert : (spans : List ZoneSpan) (span s : ZoneSpan) (at : ℕ) → at ≤ length spans → Contains spans s → Contains (insert spans at span) s
to_insert spans span s at within (k, below, is) =
    let size = length-insert spans at span within in
    ⊎_elim (λ under. (k, omega (arith, size), get_or-insert_below spans at span s k under within ∙ is))
    (λ over. (k + 1, omega (arith, size), get_or-insert_above spans at span s k over within ∙ is))
    (cases_lt k at)

at_insert : (spans : List ZoneSpan) (span s : ZoneSpan) (at : ℕ) → at ≤ length spans → Contains (span ∷ []) s → Contains (insert spans at span) s
at_insert spans span s at within one =
    let size = length-insert spans at span within in
    (at, omega (arith, size), get_or-insert_at spans at span s within ∙ one_contains span s one)

-- The spans before the place are preceded by the span.
all_before : (spans : List ZoneSpan) (span : ZoneSpan) (at : ℕ) → Descend spans → at ≤ length spans → ((d : ZoneSpan) → 0 < at → precedes span (get_or spans (at - 1) d) ≡ true) → (i : ℕ) (d : ZoneSpan) → i < at → precedes span (get_or spans i d) ≡ true
all_before spans span at descend within above i d below =
    ⊎_elim
    (λ further. precedes_trans span (get_or spans (at - 1) d) (get_or spans i d) (above d (omega arith)) (descend i (at - 1) d further (omega arith)))
    (λ not_further. let same : at - 1 ≡ i = omega arith in subst (λ (n : ℕ). precedes span (get_or spans n d) ≡ true) same (above d (omega arith)))
    (cases_lt i (at - 1))

-- the order of two spans of which the later one stands after the place
descend_after : (spans : List ZoneSpan) (span : ZoneSpan) (at : ℕ) → Descend spans → IsPlaceFor spans span at → at ≤ length spans → (i k : ℕ) (d : ZoneSpan) → at ≤ k → i ≤ k → k < length spans → precedes (get_or spans k d) (get_or (insert spans at span) i d) ≡ true
descend_after spans span at descend place within i k d over order below =
    let last = get_or spans k d in
    ⊎_elim
    (λ under. subst (λ (s : ZoneSpan). precedes last s ≡ true) (sym (get_or-insert_below spans at span d i under within)) (descend i k d (omega arith) below))
    (λ not_under. ⊎_elim
    (λ beyond.
    let next : (i - 1) + 1 ≡ i = omega arith in
    let is = ap (λ (n : ℕ). get_or (insert spans at span) n d) (sym next) ∙ get_or-insert_above spans at span d (i - 1) (omega arith) within in
    subst (λ (s : ZoneSpan). precedes last s ≡ true) (sym is) (descend (i - 1) k d (omega arith) below))
    (λ not_beyond.
    let same : at ≡ i = omega arith in
    let is = ap (λ (n : ℕ). get_or (insert spans at span) n d) (sym same) ∙ get_or-insert_at spans at span d within in
    subst (λ (s : ZoneSpan). precedes last s ≡ true) (sym is) (place.beyond k d over below))
    (cases_lt at i))
    (cases_lt i at)

descend_insert : (spans : List ZoneSpan) (span : ZoneSpan) (at : ℕ) → Descend spans → IsPlaceFor spans span at → at ≤ length spans → ((d : ZoneSpan) → 0 < at → precedes span (get_or spans (at - 1) d) ≡ true) → Descend (insert spans at span)
descend_insert spans span at descend place within above = λ i j d order below.
    let size = length-insert spans at span within in
    let list = insert spans at span in
    let first = get_or list i d in
    ⊎_elim
    (λ under.
    let last_is = get_or-insert_below spans at span d j under within in
    let first_is = get_or-insert_below spans at span d i (omega arith) within in
    subst (λ (s : ZoneSpan). precedes s first ≡ true) (sym last_is) (subst (λ (s : ZoneSpan). precedes (get_or spans j d) s ≡ true) (sym first_is) (descend i j d order (omega arith))))
    (λ over. ⊎_elim
    (λ beyond.
    let next : (j - 1) + 1 ≡ j = omega arith in
    let last_is = ap (λ (n : ℕ). get_or list n d) (sym next) ∙ get_or-insert_above spans at span d (j - 1) (omega arith) within in
    subst (λ (s : ZoneSpan). precedes s first ≡ true) (sym last_is) (descend_after spans span at descend place within i (j - 1) d (omega arith) (omega arith) (omega (arith, size))))
    (λ not_beyond.
    let same : at ≡ j = omega arith in
    let last_is = ap (λ (n : ℕ). get_or list n d) (sym same) ∙ get_or-insert_at spans at span d within in
    let first_is = get_or-insert_below spans at span d i (omega arith) within in
    subst (λ (s : ZoneSpan). precedes s first ≡ true) (sym last_is) (subst (λ (s : ZoneSpan). precedes span s ≡ true) (sym first_is) (all_before spans span at descend within above i d (omega arith))))
    (cases_lt at j))
    (cases_lt j at)

-- a span that isn't there is put at its place
pub span_put : (spans : List ZoneSpan) (span : ZoneSpan) (at : ℕ) → Descend spans → IsPlaceFor spans span at → at ≤ length spans → ((d : ZoneSpan) → 0 < at → precedes span (get_or spans (at - 1) d) ≡ true) → PutsSpans spans (span ∷ []) (insert spans at span)
span_put spans span at descend place within above = record {
  descend = descend_insert spans span at descend place within above;
  same = λ s. (λ has. from_insert spans span s at within has, λ either. ⊎_elim (λ has. to_insert spans span s at within has) (λ one. at_insert spans span s at within one) either);
}
