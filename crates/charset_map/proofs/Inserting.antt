-- What a list of spans is with one more.
use Rattle.std.proofs.Common.{◌≡◌, ℕ, zero, suc, ◌+◌, ◌-◌, ◌<◌, ◌≤◌, true, false, cond, ltb, List, [], ◌∷◌, ◌++◌, length, take, drop, get_or, Option, Some, None, refl, sym, ◌∙◌, ap, subst, arith, inl, inr, ◌⊎◌}
use Rattle.std.specs.Option.{option_or}
use Rattle.std.specs.List.{insert, remove_range}
use Rattle.std.proofs.lemmas.Bool.{cases_lt, eqb-true, eq-eqb, lt-ltb, le-ltb}
use Rattle.charset_map.specs.declared.span.Span.{Span}
use Rattle.charset_map.specs.Spans.{number_in, number_of}
use Rattle.charset_map.specs.steps.SpanLists.{IsSound, AreApart, AgreesWith, are_alike, joined, with_span, SameWhereBoth}
use Rattle.charset_map.proofs.Overlaps.{with_span_front, with_span_joined, with_span_before}
use Rattle.charset_map.proofs.SpanLemmas.{sound_at, from_at, in_span, before_span, after_span, is_in_span, none_below}

-- two spans that share a number and are alike
pub record Meets (span old : Span) : Type 0 where
  pub sound : IsSound span
  pub old_sound : IsSound old
  pub begins : old.first ≤ span.last
  pub ends : span.first ≤ old.last
  pub alike : old.value + span.first ≡ span.value + old.first

value_of_joined : (span old : Span) → Meets span old → (joined span old).value + span.first ≡ span.value + (joined span old).first
value_of_joined span old meets = elim (cases_lt old.first span.first) [
  | inl lower ↦ (let is : ltb old.first span.first ≡ true = lt-ltb _ _ lower in
      let value : cond (ltb old.first span.first) old.value span.value ≡ old.value = ap (λ b. cond b old.value span.value) is in
      omega (arith, value, meets.alike))
  | inr higher ↦ (let is : ltb old.first span.first ≡ false = le-ltb _ _ higher in
      let value : cond (ltb old.first span.first) old.value span.value ≡ span.value = ap (λ b. cond b old.value span.value) is in
      omega (arith, value))
]

joined_sound : (span old : Span) → Meets span old → IsSound (joined span old)
joined_sound span old meets =
    let value = value_of_joined span old meets in
    record {
      ordered = omega (arith, meets.sound.ordered, meets.old_sound.ordered);
      within = omega (arith, meets.sound.within, meets.old_sound.within);
      values = omega (arith, value, meets.alike, meets.sound.ordered, meets.old_sound.ordered, meets.sound.values, meets.old_sound.values, meets.begins, meets.ends);
    }

-- a number of the old span
joined_old : (span old : Span) (x : ℕ) → Meets span old → old.first ≤ x → x ≤ old.last → number_in (joined span old) x ≡ number_in old x
joined_old span old x meets from to =
    in_span (joined span old) x (omega arith) (omega arith)
    ∙ ap Some (omega (arith, value_of_joined span old meets, meets.alike, meets.sound.ordered))
    ∙ sym (in_span old x from to)

-- a number of the new one
joined_new : (span old : Span) (x : ℕ) → Meets span old → span.first ≤ x → x ≤ span.last → number_in (joined span old) x ≡ number_in span x
joined_new span old x meets from to =
    in_span (joined span old) x (omega arith) (omega arith)
    ∙ ap Some (omega (arith, value_of_joined span old meets))
    ∙ sym (in_span span x from to)

-- any number that the old one hasn't
joined_other : (span old : Span) (x : ℕ) → Meets span old → (x < old.first) ⊎ (old.last < x) → number_in (joined span old) x ≡ number_in span x
joined_other span old x meets (inl below) = elim (cases_lt x span.first) [
  | inl before ↦ before_span (joined span old) x (omega arith) ∙ sym (before_span span x before)
  | inr from ↦ joined_new span old x meets from (omega (arith, meets.begins))
]
joined_other span old x meets (inr above) = elim (cases_lt span.last x) [
  | inl beyond ↦ after_span (joined span old) x (omega arith) ∙ sym (after_span span x beyond)
  | inr to ↦ joined_new span old x meets (omega (arith, meets.ends)) to
]

alike_joined : (span old later : Span) → Meets span old → IsSound later → old.last < later.first → (later.first ≤ span.last → span.first ≤ later.last → are_alike later span ≡ true) → later.first ≤ (joined span old).last → (joined span old).first ≤ later.last → are_alike later (joined span old) ≡ true
alike_joined span old later meets sound beyond same begins ends =
    let near : later.first ≤ span.last = omega (arith, begins) in
    let alike : later.value + span.first ≡ span.value + later.first = eqb-true _ _ (same near (omega (arith, meets.ends, sound.ordered))) in
    eq-eqb _ _ (omega (arith, alike, value_of_joined span old meets))

agrees_joined : (span old : Span) (spans : List Span) → Meets span old → AreApart (old.last + 1) spans → AgreesWith span (old ∷ spans) → AgreesWith (joined span old) spans
agrees_joined span old spans meets apart agrees k d below begins ends =
    alike_joined span old (get_or spans k d) meets (sound_at (old.last + 1) spans k d apart below) (omega (arith, from_at (old.last + 1) spans k d apart below)) (agrees (suc k) d (omega arith)) begins ends

-- a list in order from a number on is so from any below
from_below : (m n : ℕ) (spans : List Span) → m ≤ n → AreApart n spans → AreApart m spans
from_below m n [] low apart = tt
from_below m n (span ∷ spans) low apart = (omega (arith, apart.0), apart.1, apart.2)

-- the first of the spans meets the new one
meets_first : (span old : Span) (spans : List Span) → IsSound span → IsSound old → AgreesWith span (old ∷ spans) → old.first ≤ span.last → span.first ≤ old.last → Meets span old
meets_first span old spans sound known agrees begins ends = record {
  sound = sound;
  old_sound = known;
  begins = begins;
  ends = ends;
  alike = eqb-true _ _ (agrees 0 old (omega arith) begins ends);
}

-- the list stays in order
pub with_span_apart : (n : ℕ) (span : Span) (spans : List Span) → n ≤ span.first → IsSound span → AreApart n spans → AgreesWith span spans → AreApart n (with_span span spans)
with_span_apart n span [] from sound apart agrees = (from, sound, tt)
with_span_apart n span (old ∷ spans) from sound apart agrees = elim (cases_lt old.last span.first) [
  | inl front ↦ subst (AreApart n) (sym (with_span_front span old spans front))
      (apart.0, apart.1, with_span_apart (old.last + 1) span spans (omega arith) sound apart.2 (λ k d below. agrees (suc k) d (omega arith)))
  | inr ends ↦ (elim (cases_lt span.last old.first) [
    | inl before ↦ subst (AreApart n) (sym (with_span_before span old spans ends before))
        (from, sound, (omega arith, apart.1, apart.2))
    | inr begins ↦ (let meets : Meets span old = meets_first span old spans sound apart.1 agrees begins ends in
        subst (AreApart n) (sym (with_span_joined span old spans ends begins))
        (with_span_apart n (joined span old) spans (omega (arith, apart.0)) (joined_sound span old meets) (from_below n (old.last + 1) spans (omega (arith, apart.0, apart.1.ordered)) apart.2) (agrees_joined span old spans meets apart.2 agrees)))
  ])
]

option_or_none : (o : Option ℕ) → option_or o None ≡ o
option_or_none None = refl
option_or_none (Some v) = refl

option_or_assoc : (a b c : Option ℕ) → option_or a (option_or b c) ≡ option_or (option_or a b) c
option_or_assoc None b c = refl
option_or_assoc (Some v) b c = refl

-- a number that the one span has the list after it hasn't
either_order : (span : Span) (old : Span) (spans : List Span) (x : ℕ) → IsSound old → AreApart (old.last + 1) spans → span.last < old.first → option_or (number_in span x) (number_of (old ∷ spans) x) ≡ option_or (number_of (old ∷ spans) x) (number_in span x)
either_order span old spans x sound apart before = elim (cases_lt span.last x) [
  | inl beyond ↦ (let none : number_in span x ≡ None = after_span span x beyond in
      ap (λ o. option_or o (number_of (old ∷ spans) x)) none
      ∙ sym (ap (option_or (number_of (old ∷ spans) x)) none ∙ option_or_none (number_of (old ∷ spans) x)))
  | inr to ↦ (let none : number_of (old ∷ spans) x ≡ None = none_below old.first (old ∷ spans) x (omega arith, sound, apart) (omega arith) in
      ap (option_or (number_in span x)) none
      ∙ option_or_none (number_in span x)
      ∙ sym (ap (λ o. option_or o (number_in span x)) none))
]

-- the values of the joined span and of those after it
joined_values : (span old : Span) (spans : List Span) (x : ℕ) → Meets span old → AreApart (old.last + 1) spans → option_or (number_of spans x) (number_in (joined span old) x) ≡ option_or (option_or (number_in old x) (number_of spans x)) (number_in span x)
joined_values span old spans x meets apart = elim (cases_lt x old.first) [
  | inl below ↦ ap (option_or (number_of spans x)) (joined_other span old x meets (inl below))
      ∙ sym (ap (λ o. option_or (option_or o (number_of spans x)) (number_in span x)) (before_span old x below))
  | inr from ↦ (elim (cases_lt old.last x) [
    | inl above ↦ ap (option_or (number_of spans x)) (joined_other span old x meets (inr above))
        ∙ sym (ap (λ o. option_or (option_or o (number_of spans x)) (number_in span x)) (after_span old x above))
    | inr to ↦ ap (λ o. option_or o (number_in (joined span old) x)) (none_below (old.last + 1) spans x apart (omega arith))
        ∙ joined_old span old x meets from to
        ∙ in_span old x from to
        ∙ sym (ap (λ o. option_or (option_or o (number_of spans x)) (number_in span x)) (in_span old x from to))
  ])
]

-- and has the values of both
pub with_span_values : (n : ℕ) (span : Span) (spans : List Span) (x : ℕ) → IsSound span → AreApart n spans → AgreesWith span spans → number_of (with_span span spans) x ≡ option_or (number_of spans x) (number_in span x)
with_span_values n span [] x sound apart agrees = option_or_none (number_in span x)
with_span_values n span (old ∷ spans) x sound apart agrees = elim (cases_lt old.last span.first) [
  | inl front ↦ ap (λ ss. number_of ss x) (with_span_front span old spans front)
      ∙ ap (option_or (number_in old x)) (with_span_values (old.last + 1) span spans x sound apart.2 (λ k d below. agrees (suc k) d (omega arith)))
      ∙ option_or_assoc (number_in old x) (number_of spans x) (number_in span x)
  | inr ends ↦ (elim (cases_lt span.last old.first) [
    | inl before ↦ ap (λ ss. number_of ss x) (with_span_before span old spans ends before)
        ∙ either_order span old spans x apart.1 apart.2 before
    | inr begins ↦ (let meets : Meets span old = meets_first span old spans sound apart.1 agrees begins ends in
        ap (λ ss. number_of ss x) (with_span_joined span old spans ends begins)
        ∙ with_span_values (old.last + 1) (joined span old) spans x (joined_sound span old meets) apart.2 (agrees_joined span old spans meets apart.2 agrees)
        ∙ joined_values span old spans x meets apart.2)
  ])
]

-- no number has two values
pub same_where_both : (n : ℕ) (span : Span) (spans : List Span) → AreApart n spans → AgreesWith span spans → SameWhereBoth (number_of spans) (number_in span)
same_where_both n span [] apart agrees x v w old new = cc
same_where_both n span (first ∷ spans) apart agrees x v w old new =
    let tail = same_where_both (first.last + 1) span spans apart.2 (λ k d below. agrees (suc k) d (omega arith)) x v w in
    elim (cases_lt x first.first) [
      | inl below ↦ tail (sym (ap (λ o. option_or o (number_of spans x)) (before_span first x below)) ∙ old) new
      | inr from ↦ (elim (cases_lt first.last x) [
        | inl above ↦ tail (sym (ap (λ o. option_or o (number_of spans x)) (after_span first x above)) ∙ old) new
        | inr to ↦ (let had : Some (first.value + (x - first.first)) ≡ Some v = sym (ap (λ o. option_or o (number_of spans x)) (in_span first x from to)) ∙ old in
            let is : first.value + (x - first.first) ≡ v = cc in
            let gets = is_in_span span x w new in
            let alike : first.value + span.first ≡ span.value + first.first = eqb-true _ _ (agrees 0 first (omega arith) (omega (arith, gets.1)) (omega (arith, gets.0))) in
            omega (arith, is, alike, gets.0, gets.1, gets.2))
      ])
    ]

put_between : (spans more : List Span) (from : ℕ) (whole : Span) → from ≤ length spans → take from (take from spans ++ more) ++ whole ∷ drop from (take from spans ++ more) ≡ take from spans ++ whole ∷ more
put_between spans more zero whole within = refl
put_between [] more (suc from) whole within = absurd (omega arith)
put_between (span ∷ spans) more (suc from) whole within = ap (λ ss. span ∷ ss) (put_between spans more from whole (omega arith))

-- the list without what the span was joined with, and with the whole in its place
pub put_in : (spans : List Span) (from to : ℕ) (whole : Span) → from ≤ length spans → insert (remove_range spans from to) from whole ≡ take from spans ++ whole ∷ drop to spans
put_in spans from to whole within = put_between spans (drop to spans) from whole within

apart_after : (n : ℕ) (spans : List Span) (to : ℕ) → AreApart n spans → AreApart n (drop to spans)
apart_after n spans zero apart = apart
apart_after n [] (suc to) apart = tt
apart_after n (span ∷ spans) (suc to) apart = apart_after n spans to (from_below n (span.last + 1) spans (omega (arith, apart.0, apart.1.ordered)) apart.2)

-- the list without some of its spans
pub apart_without : (n : ℕ) (spans : List Span) (from to : ℕ) → from ≤ to → AreApart n spans → AreApart n (remove_range spans from to)
apart_without n spans zero to order apart = apart_after n spans to apart
apart_without n [] (suc from) to order apart = apart_after n [] to apart
apart_without n (span ∷ spans) (suc from) zero order apart = absurd (omega arith)
apart_without n (span ∷ spans) (suc from) (suc to) order apart = (apart.0, apart.1, apart_without (span.last + 1) spans from to (omega arith) apart.2)
