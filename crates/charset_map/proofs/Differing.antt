-- Spans of which no two differ: their order makes no difference.
use Rattle.std.proofs.Common.{◌≡◌, ℕ, zero, suc, ◌<◌, List, [], ◌∷◌, ◌++◌, length, map, get_or, Option, Some, None, refl, sym, ◌∙◌, ap, subst, arith, inl, inr}
use Rattle.std.specs.Prelude.{◌⊎◌, Contains, IsPermutation}
use Rattle.std.specs.Option.{option_or}
use Rattle.std.proofs.lemmas.List.Elements.{Contains-append_left, Contains-append_right, Contains-append_cases}
use Rattle.std.proofs.lemmas.List.Sorted.{Contains-permutation, IsPermutation-map, IsPermutation-sym}
use Rattle.charset_map.specs.declared.gathering.Written.{Written}
use Rattle.charset_map.specs.declared.span.Span.{Span}
use Rattle.charset_map.specs.Spans.{number_in, number_of}
use Rattle.charset_map.specs.steps.Gathering.{NoneDiffer, SomeDiffer, span_in}
use Rattle.charset_map.specs.steps.SpanLists.{Differ, SameWhereBoth}

some_same : (o : Option ℕ) (u v : ℕ) → o ≡ Some u → o ≡ Some v → u ≡ v
some_same o u v a b = cc

some_none : {P : Type 0} (o : Option ℕ) (v : ℕ) → o ≡ Some v → o ≡ None → P
some_none o v a b = cc

some_or_none : (o : Option ℕ) → (o ≡ None) ⊎ ((u : ℕ) × (o ≡ Some u))
some_or_none None = inl refl
some_or_none (Some u) = inr (u, refl)

either : (a b : Option ℕ) (v : ℕ) → option_or a b ≡ Some v → (a ≡ Some v) ⊎ (b ≡ Some v)
either (Some u) b v is = inl is
either None b v is = inr is

or_none : (o : Option ℕ) → option_or o None ≡ o
or_none None = refl
or_none (Some v) = refl

or_assoc : (a b c : Option ℕ) → option_or a (option_or b c) ≡ option_or (option_or a b) c
or_assoc None b c = refl
or_assoc (Some v) b c = refl

-- the values of spans with one more
pub number_of_more : (spans : List Span) (span : Span) (n : ℕ) → number_of (spans ++ span ∷ []) n ≡ option_or (number_of spans n) (number_in span n)
number_of_more [] span n = or_none (number_in span n)
number_of_more (first ∷ spans) span n = ap (option_or (number_in first n)) (number_of_more spans span n) ∙ or_assoc (number_in first n) (number_of spans n) (number_in span n)

-- a span that gives a number its value
pub record Giver (spans : List Span) (n v : ℕ) : Type 0 where
  pub span : Span
  pub has : Contains spans span
  pub gives : number_in span n ≡ Some v

one_more : (first : Span) (spans : List Span) (n v : ℕ) → Giver spans n v → Giver (first ∷ spans) n v
one_more first spans n v giver = record { span = giver.span; has = Contains-append_right (first ∷ []) spans giver.span giver.has; gives = giver.gives }

pub giver : (spans : List Span) (n v : ℕ) → number_of spans n ≡ Some v → Giver spans n v
giver [] n v is = some_none None v is refl
giver (first ∷ spans) n v is = elim (either (number_in first n) (number_of spans n) v is) [
  | inl here ↦ record { span = first; has = (0, omega arith, refl); gives = here }
  | inr later ↦ one_more first spans n v (giver spans n v later)
]

-- a number that a span of the list has the list has
list_has : (spans : List Span) (k n v : ℕ) (d : Span) → k < length spans → number_in (get_or spans k d) n ≡ Some v → (u : ℕ) × (number_of spans n ≡ Some u)
list_has [] k n v d within is = absurd (omega arith)
list_has (first ∷ spans) zero n v d within is = (v, ap (λ o. option_or o (number_of spans n)) is)
list_has (first ∷ spans) (suc k) n v d within is = elim (some_or_none (number_in first n)) [
  | inl none ↦ (let rest = list_has spans k n v d (omega arith) is in (rest.0, ap (λ o. option_or o (number_of spans n)) none ∙ rest.1))
  | inr some ↦ (some.0, ap (λ o. option_or o (number_of spans n)) some.1)
]

has_some : (spans : List Span) (span : Span) (n v : ℕ) → Contains spans span → number_in span n ≡ Some v → (u : ℕ) × (number_of spans n ≡ Some u)
has_some spans span n v (k, within, at) is = list_has spans k n v span within (subst (λ (s : Span). number_in s n ≡ Some v) (sym at) is)

-- where no two differ, it has that value
pub has_value : (spans : List Span) (span : Span) (n v : ℕ) → NoneDiffer spans → Contains spans span → number_in span n ≡ Some v → number_of spans n ≡ Some v
has_value spans span n v none has is =
    let some = has_some spans span n v has is in
    let by : Giver spans n some.0 = giver spans n some.0 some.1 in
    some.1 ∙ ap Some (none by.span span by.has has n some.0 v by.gives is)

-- two lists of the same spans, of which no two differ, have the same values
same_values : (one other : List Span) → NoneDiffer other → ((s : Span) → Contains one s → Contains other s) → ((s : Span) → Contains other s → Contains one s) → (n : ℕ) → number_of one n ≡ number_of other n
same_values one other none to back n = elim (some_or_none (number_of one n)) [
  | inl nothing ↦ elim (some_or_none (number_of other n)) [
    | inl both ↦ nothing ∙ sym both
    | inr some ↦ (let by : Giver other n some.0 = giver other n some.0 some.1 in
        let had = has_some one by.span n some.0 (back by.span by.has) by.gives in
        some_none (number_of one n) had.0 had.1 nothing)
  ]
  | inr some ↦ (let by : Giver one n some.0 = giver one n some.0 some.1 in
      some.1 ∙ sym (has_value other by.span n some.0 none (to by.span by.has) by.gives))
]

only_one : (span other : Span) → Contains (span ∷ []) other → span ≡ other
only_one span other (zero, within, at) = at
only_one span other (suc k, within, at) = absurd (omega (arith, within))

last_one : (spans : List Span) (span : Span) → Contains (spans ++ span ∷ []) span
last_one spans span = Contains-append_right spans (span ∷ []) span (0, omega arith, refl)

pub none_differ_nil : NoneDiffer []
none_differ_nil one other (k, within, at) = absurd (omega (arith, within))

-- one more span that gives no number another value
pub none_differ_more : (spans : List Span) (span : Span) → NoneDiffer spans → SameWhereBoth (number_of spans) (number_in span) → NoneDiffer (spans ++ span ∷ [])
none_differ_more spans span none same one other has_one has_other n v w gives gets =
    elim (Contains-append_cases spans (span ∷ []) one has_one) [
      | inl one_in ↦ elim (Contains-append_cases spans (span ∷ []) other has_other) [
        | inl other_in ↦ none one other one_in other_in n v w gives gets
        | inr other_is ↦ same n v w (has_value spans one n v none one_in gives) (subst (λ (s : Span). number_in s n ≡ Some w) (sym (only_one span other other_is)) gets)
      ]
      | inr one_is ↦ elim (Contains-append_cases spans (span ∷ []) other has_other) [
        | inl other_in ↦ sym (same n w v (has_value spans other n w none other_in gets) (subst (λ (s : Span). number_in s n ≡ Some v) (sym (only_one span one one_is)) gives))
        | inr other_is ↦ some_same (number_in span n) v w (subst (λ (s : Span). number_in s n ≡ Some v) (sym (only_one span one one_is)) gives) (subst (λ (s : Span). number_in s n ≡ Some w) (sym (only_one span other other_is)) gets)
      ]
    ]

-- one more span that differs
pub some_differ_more : (spans : List Span) (span : Span) → Differ (number_of spans) (number_in span) → SomeDiffer (spans ++ span ∷ [])
some_differ_more spans span differ =
    let by : Giver spans differ.number differ.first = giver spans differ.number differ.first differ.by_first in
    record {
      one = by.span;
      other = span;
      has_one = Contains-append_left spans (span ∷ []) by.span by.has;
      has_other = last_one spans span;
      differ = record { number = differ.number; within = differ.within; first = differ.first; by_first = by.gives; second = differ.second; by_second = differ.by_second; differ = differ.differ };
    }

pub some_differ_within : (some all : List Span) → ((s : Span) → Contains some s → Contains all s) → SomeDiffer some → SomeDiffer all
some_differ_within some all within two = record { one = two.one; other = two.other; has_one = within two.one two.has_one; has_other = within two.other two.has_other; differ = two.differ }

-- the last span differs from those before it, where no two of these differ
pub last_differs : (spans : List Span) (span : Span) → NoneDiffer spans → SomeDiffer (spans ++ span ∷ []) → Differ (number_of spans) (number_in span)
last_differs spans span none two =
    let d = two.differ in
    elim (Contains-append_cases spans (span ∷ []) two.one two.has_one) [
      | inl one_in ↦ elim (Contains-append_cases spans (span ∷ []) two.other two.has_other) [
        | inl other_in ↦ absurd (d.differ (none two.one two.other one_in other_in d.number d.first d.second d.by_first d.by_second))
        | inr other_is ↦ record {
          number = d.number;
          within = d.within;
          first = d.first;
          by_first = has_value spans two.one d.number d.first none one_in d.by_first;
          second = d.second;
          by_second = subst (λ (s : Span). number_in s d.number ≡ Some d.second) (sym (only_one span two.other other_is)) d.by_second;
          differ = d.differ;
        }
      ]
      | inr one_is ↦ elim (Contains-append_cases spans (span ∷ []) two.other two.has_other) [
        | inl other_in ↦ record {
          number = d.number;
          within = d.within;
          first = d.second;
          by_first = has_value spans two.other d.number d.second none other_in d.by_second;
          second = d.first;
          by_second = subst (λ (s : Span). number_in s d.number ≡ Some d.first) (sym (only_one span two.one one_is)) d.by_first;
          differ = λ same. d.differ (sym same);
        }
        | inr other_is ↦ absurd (d.differ (some_same (number_in span d.number) d.first d.second
            (subst (λ (s : Span). number_in s d.number ≡ Some d.first) (sym (only_one span two.one one_is)) d.by_first)
            (subst (λ (s : Span). number_in s d.number ≡ Some d.second) (sym (only_one span two.other other_is)) d.by_second)))
      ]
    ]

-- ---- the same for entries in another order
spans_to : (list sorted : List Written) → IsPermutation list sorted → (s : Span) → Contains (map span_in list) s → Contains (map span_in sorted) s
spans_to list sorted order s has = Contains-permutation (map span_in list) (map span_in sorted) s (IsPermutation-map span_in list sorted order) has

spans_back : (list sorted : List Written) → IsPermutation list sorted → (s : Span) → Contains (map span_in sorted) s → Contains (map span_in list) s
spans_back list sorted order s has = spans_to sorted list (IsPermutation-sym list sorted order) s has

pub none_differ_sorted : (list sorted : List Written) → IsPermutation list sorted → NoneDiffer (map span_in sorted) → NoneDiffer (map span_in list)
none_differ_sorted list sorted order none one other has_one has_other = none one other (spans_to list sorted order one has_one) (spans_to list sorted order other has_other)

pub some_differ_sorted : (list sorted : List Written) → IsPermutation list sorted → SomeDiffer (map span_in sorted) → SomeDiffer (map span_in list)
some_differ_sorted list sorted order two = some_differ_within (map span_in sorted) (map span_in list) (spans_back list sorted order) two

pub values_sorted : (list sorted : List Written) → IsPermutation list sorted → NoneDiffer (map span_in sorted) → (n : ℕ) → number_of (map span_in sorted) n ≡ number_of (map span_in list) n
values_sorted list sorted order none n =
    same_values (map span_in sorted) (map span_in list) (none_differ_sorted list sorted order none) (spans_back list sorted order) (spans_to list sorted order) n
