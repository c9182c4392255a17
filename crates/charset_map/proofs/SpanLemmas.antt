-- Lists of spans: looking up a number, and adding a span.
use Rattle.std.proofs.Common.{◌≡◌, ℕ, zero, suc, ◌+◌, ◌-◌, ◌<◌, ◌≤◌, true, false, ltb, List, [], ◌∷◌, length, get_or, Some, None, refl, sym, ◌∙◌, ap, subst, arith}
use Rattle.std.specs.Option.{option_or}
use Rattle.std.specs.List.{AllWithin}
use Rattle.std.specs.List.Sorted.{IsPartitionedBy, IsPartitionPoint}
use Rattle.std.proofs.lemmas.Bool.{ltb-true, ltb-false, lt-ltb}
use Rattle.charset_map.specs.declared.span.Span.{Span}
use Rattle.charset_map.specs.Spans.{number_in, number_of}
use Rattle.charset_map.specs.steps.SpanLists.{IsSound, AreApart}

-- a number in a span
pub in_span : (span : Span) (n : ℕ) → span.first ≤ n → n ≤ span.last → number_in span n ≡ Some (span.value + (n - span.first))
in_span span n from to = grind arith

pub before_span : (span : Span) (n : ℕ) → n < span.first → number_in span n ≡ None
before_span span n below = grind arith

pub after_span : (span : Span) (n : ℕ) → span.last < n → number_in span n ≡ None
after_span span n above = grind arith

-- and back
pub is_in_span : (span : Span) (n v : ℕ) → number_in span n ≡ Some v → (span.first ≤ n) × (n ≤ span.last) × (v ≡ span.value + (n - span.first))
is_in_span span n v is = grind arith

-- the parts of a list of spans
pub sound_at : (n : ℕ) (spans : List Span) (k : ℕ) (d : Span) → AreApart n spans → k < length spans → IsSound (get_or spans k d)
sound_at n [] k d apart within = absurd (omega arith)
sound_at n (span ∷ spans) zero d apart within = apart.1
sound_at n (span ∷ spans) (suc k) d apart within = sound_at (span.last + 1) spans k d apart.2 (omega arith)

pub from_at : (n : ℕ) (spans : List Span) (k : ℕ) (d : Span) → AreApart n spans → k < length spans → n ≤ (get_or spans k d).first
from_at n [] k d apart within = absurd (omega arith)
from_at n (span ∷ spans) zero d apart within = apart.0
from_at n (span ∷ spans) (suc k) d apart within = omega (arith, from_at (span.last + 1) spans k d apart.2 (omega arith), apart.0, apart.1.ordered)

pub lasts_rise : (n : ℕ) (spans : List Span) (i j : ℕ) (d : Span) → AreApart n spans → i ≤ j → j < length spans → (get_or spans i d).last ≤ (get_or spans j d).last
lasts_rise n [] i j d apart order within = absurd (omega arith)
lasts_rise n (span ∷ spans) zero zero d apart order within = omega arith
lasts_rise n (span ∷ spans) zero (suc j) d apart order within =
    let far : span.last + 1 ≤ (get_or spans j d).first = from_at (span.last + 1) spans j d apart.2 (omega arith) in
    let sound : IsSound (get_or spans j d) = sound_at (span.last + 1) spans j d apart.2 (omega arith) in
    omega (arith, far, sound.ordered)
lasts_rise n (span ∷ spans) (suc i) zero d apart order within = absurd (omega arith)
lasts_rise n (span ∷ spans) (suc i) (suc j) d apart order within = lasts_rise (span.last + 1) spans i j d apart.2 (omega arith) (omega arith)

-- the spans that end below a number come first
pub ends_parted : (spans : List Span) (x : ℕ) → AreApart 0 spans → IsPartitionedBy (λ span. ltb span.last x) spans
ends_parted spans x apart i j d order within later = lt-ltb _ _ (omega (arith, ltb-true _ _ later, lasts_rise 0 spans i j d apart order within))

-- no span of these has a number below them
pub none_below : (n : ℕ) (spans : List Span) (x : ℕ) → AreApart n spans → x < n → number_of spans x ≡ None
none_below n [] x apart below = refl
none_below n (span ∷ spans) x apart below =
    ap (λ o. option_or o (number_of spans x)) (before_span span x (omega (arith, apart.0)))
    ∙ none_below (span.last + 1) spans x apart.2 (omega (arith, apart.0, apart.1.ordered))

-- the look-up at the first span that doesn't end below the number
pub number_found : (n : ℕ) (spans : List Span) (i x : ℕ) (d : Span) → AreApart n spans → i < length spans → AllWithin (λ span. ltb span.last x ≡ true) spans 0 i → x ≤ (get_or spans i d).last → (get_or spans i d).first ≤ x → number_of spans x ≡ Some ((get_or spans i d).value + (x - (get_or spans i d).first))
number_found n [] i x d apart within low to from = absurd (omega arith)
number_found n (span ∷ spans) zero x d apart within low to from = ap (λ o. option_or o (number_of spans x)) (in_span span x from to)
number_found n (span ∷ spans) (suc i) x d apart within low to from =
    ap (λ o. option_or o (number_of spans x)) (after_span span x (ltb-true _ _ (low 0 d (omega arith) (omega arith))))
    ∙ number_found (span.last + 1) spans i x d apart.2 (omega arith) (λ k e least below. low (suc k) e (omega arith) (omega arith)) to from

pub number_between : (n : ℕ) (spans : List Span) (i x : ℕ) (d : Span) → AreApart n spans → i < length spans → AllWithin (λ span. ltb span.last x ≡ true) spans 0 i → x < (get_or spans i d).first → number_of spans x ≡ None
number_between n [] i x d apart within low before = absurd (omega arith)
number_between n (span ∷ spans) zero x d apart within low before =
    ap (λ o. option_or o (number_of spans x)) (before_span span x before)
    ∙ none_below (span.last + 1) spans x apart.2 (omega (arith, before, apart.1.ordered))
number_between n (span ∷ spans) (suc i) x d apart within low before =
    ap (λ o. option_or o (number_of spans x)) (after_span span x (ltb-true _ _ (low 0 d (omega arith) (omega arith))))
    ∙ number_between (span.last + 1) spans i x d apart.2 (omega arith) (λ k e least below. low (suc k) e (omega arith) (omega arith)) before

pub number_beyond : (spans : List Span) (x : ℕ) → AllWithin (λ span. ltb span.last x ≡ true) spans 0 (length spans) → number_of spans x ≡ None
number_beyond [] x low = refl
number_beyond (span ∷ spans) x low =
    ap (λ o. option_or o (number_of spans x)) (after_span span x (ltb-true _ _ (low 0 span (omega arith) (omega arith))))
    ∙ number_beyond spans x (λ k e least below. low (suc k) e (omega arith) (omega arith))

-- what a bisection says of a number
pub found_here : (spans : List Span) (x i : ℕ) (span : Span) → AreApart 0 spans → true ≡ ltb i (length spans) → span ≡ get_or spans i span → IsPartitionPoint (λ s. ltb s.last x ≡ true) (λ s. ltb s.last x ≡ false) spans i → span.first ≤ x → number_of spans x ≡ Some (span.value + (x - span.first))
found_here spans x i span apart within is parted from =
    let here : i < length spans = ltb-true _ _ (sym within) in
    let to : x ≤ (get_or spans i span).last = ltb-false _ _ (parted.1 i span (omega arith) here) in
    let from' : (get_or spans i span).first ≤ x = subst (λ (s : Span). s.first ≤ x) is from in
    number_found 0 spans i x span apart here parted.0 to from'
    ∙ ap (λ (s : Span). Some (s.value + (x - s.first))) (sym is)

pub not_here : (spans : List Span) (x i : ℕ) (span : Span) → AreApart 0 spans → true ≡ ltb i (length spans) → span ≡ get_or spans i span → IsPartitionPoint (λ s. ltb s.last x ≡ true) (λ s. ltb s.last x ≡ false) spans i → x < span.first → number_of spans x ≡ None
not_here spans x i span apart within is parted before =
    number_between 0 spans i x span apart (ltb-true _ _ (sym within)) parted.0 (subst (λ (s : Span). x < s.first) is before)

pub none_left : (spans : List Span) (x i : ℕ) → false ≡ ltb i (length spans) → IsPartitionPoint (λ s. ltb s.last x ≡ true) (λ s. ltb s.last x ≡ false) spans i → number_of spans x ≡ None
none_left spans x i past parted =
    let all : length spans ≤ i = ltb-false _ _ (sym past) in
    number_beyond spans x (λ k d least below. parted.0 k d least (omega arith))

pub sound_here : (spans : List Span) (i : ℕ) (span : Span) → AreApart 0 spans → true ≡ ltb i (length spans) → span ≡ get_or spans i span → IsSound span
sound_here spans i span apart within is = subst IsSound (sym is) (sound_at 0 spans i span apart (ltb-true _ _ (sym within)))

pub ends_here : (spans : List Span) (x i : ℕ) (span : Span) → true ≡ ltb i (length spans) → span ≡ get_or spans i span → IsPartitionPoint (λ s. ltb s.last x ≡ true) (λ s. ltb s.last x ≡ false) spans i → x ≤ span.last
ends_here spans x i span within is parted = subst (λ (s : Span). x ≤ s.last) (sym is) (ltb-false _ _ (parted.1 i span (omega arith) (ltb-true _ _ (sym within))))
