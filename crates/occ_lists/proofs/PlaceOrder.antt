-- Places in order: what a test that splits them says, and those inside a span.
use Rattle.std.proofs.Common.{◌≡◌, ℕ, ◌+◌, ◌<◌, ◌≤◌, ◌⊎◌, true, false, not, ◌&&◌, List, [], length, take, get_or, Option, Some, None, MatchOption, Bor, sym, ap, ◌∙◌, inl, inr, arith}
use Rattle.std.specs.Option.{unwrap_or}
use Rattle.std.specs.List.{filter, slice_range}
use Rattle.std.specs.List.Sorted.{IsPartitionedBy, IsPartitionPoint}
use Rattle.std.proofs.lemmas.Bool.{cases_Bool, cases_eq, true≢false}
use Rattle.std.proofs.lemmas.Bool.Decides.{nat_tests}
use Rattle.std.proofs.lemmas.List.Elements.{filter_agree}
use Rattle.std.proofs.lemmas.List.Folds.{list_all_more}
use Rattle.doc_types.specs.declared.tokens.ZoneSpan.{ZoneSpan}
use Rattle.occ_lists.specs.Places.{ArePlaces, is_before, is_within, within_all}
use Rattle.occ_lists.proofs.Kept.{filter_filter, filter_range, filter_nowhere}

-- one before the other, which is before a third
pub before_trans : (a b c : ℕ × ℕ) → is_before a b ≡ true → is_before b c ≡ true → is_before a c ≡ true
before_trans a b c ab bc = grind (arith, nat_tests)

pub too_early : (span : ℕ × ZoneSpan) (place : ℕ × ℕ) → is_before place (span.0, span.1.first) ≡ true → is_within span place ≡ false
too_early span place before = grind (arith, nat_tests)

pub too_late : (span : ℕ × ZoneSpan) (place : ℕ × ℕ) → not (is_before (span.0, span.1.last) place) ≡ false → is_within span place ≡ false
too_late span place after = grind (arith, nat_tests)

pub just_right : (span : ℕ × ZoneSpan) (place : ℕ × ℕ) → is_before place (span.0, span.1.first) ≡ false → not (is_before (span.0, span.1.last) place) ≡ true → is_within span place ≡ true
just_right span place first last = grind (arith, nat_tests)

-- the tests by which places are split
pub begun_parted : (span : ℕ × ZoneSpan) (places : List (ℕ × ℕ)) → ArePlaces places → IsPartitionedBy (λ place. is_before place (span.0, span.1.first)) places
begun_parted span places ascend i j d up within later = elim (cases_eq i j) [
  | inl same ↦ rw same later
  | inr other ↦ before_trans (get_or places i d) (get_or places j d) (span.0, span.1.first) (ascend i j d (omega arith) within) later
]

pub ended_parted : (span : ℕ × ZoneSpan) (places : List (ℕ × ℕ)) → ArePlaces places → IsPartitionedBy (λ place. not (is_before (span.0, span.1.last) place)) places
ended_parted span places ascend i j d up within later = elim (cases_eq i j) [
  | inl same ↦ rw same later
  | inr other ↦ elim (cases_Bool (is_before (span.0, span.1.last) (get_or places i d))) [
    | inl after ↦
        let far : is_before (span.0, span.1.last) (get_or places j d) ≡ true = before_trans (span.0, span.1.last) (get_or places i d) (get_or places j d) after (ascend i j d (omega arith) within) in
        absurd (true≢false (sym later ∙ ap not far))
    | inr fine ↦ ap not fine
  ]
]

-- what is found between the two places that the tests give
pub inside_is : (span : ℕ × ZoneSpan) (places : List (ℕ × ℕ)) (from to : ℕ) (found : Option (Bor (List (ℕ × ℕ)))) (result other : Bor (List (ℕ × ℕ))) → IsPartitionPoint (λ place. is_before place (span.0, span.1.first) ≡ true) (λ place. is_before place (span.0, span.1.first) ≡ false) places from → IsPartitionPoint (λ place. not (is_before (span.0, span.1.last) place) ≡ true) (λ place. not (is_before (span.0, span.1.last) place) ≡ false) places to → to ≤ length places → MatchOption found ((to < from) ⊎ (length places < to)) (λ x. (from ≤ to) × (to ≤ length places) × (x.now ≡ slice_range places from to) × (length x.now + from ≡ to)) → result ≡ unwrap_or found other → other.now ≡ [] → result.now ≡ filter (is_within span) places
inside_is span places from to None result other begun ended within lookup is none =
    let down : to ≤ from = elim lookup [ inl below ↦ omega arith | inr above ↦ omega arith ] in
    let nothing : filter (is_within span) places ≡ [] = filter_nowhere (is_within span) places from to down
    (λ k d low high. too_early span (get_or places k d) (begun.0 k d low high))
    (λ k d low high. too_late span (get_or places k d) (ended.1 k d low high)) in
    cc (ap (λ (b : Bor (List (ℕ × ℕ))). b.now) is)
inside_is span places from to (Some part) result other begun ended within lookup is none =
    let some : filter (is_within span) places ≡ slice_range places from to = filter_range (is_within span) places from to lookup.0 lookup.1
    (λ k d low high. too_early span (get_or places k d) (begun.0 k d low high))
    (λ k d low high. just_right span (get_or places k d) (begun.1 k d low (omega arith)) (ended.0 k d (omega arith) high))
    (λ k d low high. too_late span (get_or places k d) (ended.1 k d low high)) in
    cc (ap (λ (b : Bor (List (ℕ × ℕ))). b.now) is)

-- one span more
pub within_more : (spans : List (ℕ × ZoneSpan)) (i : ℕ) (d : ℕ × ZoneSpan) (places rest : List (ℕ × ℕ)) → i < length spans → rest ≡ filter (within_all (take i spans)) places → filter (is_within (get_or spans i d)) rest ≡ filter (within_all (take (i + 1) spans)) places
within_more spans i d places rest within so_far =
    ap (filter (is_within (get_or spans i d))) so_far
    ∙ filter_filter (is_within (get_or spans i d)) (within_all (take i spans)) places
    ∙ filter_agree (λ place. within_all (take i spans) place && is_within (get_or spans i d) place) (within_all (take (i + 1) spans)) (λ place. sym (list_all_more (λ span. is_within span place) spans i d within)) places
