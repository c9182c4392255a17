-- Lists of spans in order, and what it is to join a span with them.
use Rattle.std.specs.Prelude.{◌≡◌, ◌≢◌, ℕ, ◌+◌, ◌-◌, ◌<◌, ◌≤◌, List, [], ◌∷◌, Bool, true, All, ◌==◌, nat_le, nat_lt, min, max, Option, Some, if◌then◌else◌}
use Rattle.charset_map.specs.declared.span.Span.{Span}

-- a span of characters whose values are characters
pub record IsSound (span : Span) : Type 0 where
  pub ordered : span.first ≤ span.last
  pub within : span.last < 0x10_F800
  pub values : span.value + (span.last - span.first) < 0x10_F800

-- sound spans in order, each after the one before, from a number on
abbrev pub AreApart : ℕ → List Span → Type 0
AreApart n [] = Unit {0}
AreApart n (span ∷ spans) = (n ≤ span.first) × IsSound span × AreApart (span.last + 1) spans

-- two spans put the values as far after the characters
abbrev pub are_alike : Span → Span → Bool
are_alike span other = (span.value + other.first) == (other.value + span.first)

-- the span from where the first of the two begins to where the last one ends
abbrev pub joined : Span → Span → Span
joined span other = record { first = min span.first other.first; last = max span.last other.last; value = if nat_lt other.first span.first then other.value else span.value }

-- the spans with one more, which is joined with those that share a number with it
abbrev pub with_span : Span → List Span → List Span
with_span span [] = span ∷ []
with_span span (old ∷ spans) = if nat_lt old.last span.first then old ∷ with_span span spans else (if nat_le old.first span.last then with_span (joined span old) spans else span ∷ old ∷ spans)

-- two maps give no number different values
abbrev pub SameWhereBoth : (ℕ → Option ℕ) → (ℕ → Option ℕ) → Type 0
SameWhereBoth f g = (n v w : ℕ) → f n ≡ Some v → g n ≡ Some w → v ≡ w

-- some number has different values by two maps
pub record Differ (f g : ℕ → Option ℕ) : Type 0 where
  pub number : ℕ
  pub within : number < 0x10_F800
  pub first : ℕ
  pub by_first : f number ≡ Some first
  pub second : ℕ
  pub by_second : g number ≡ Some second
  pub differ : first ≢ second

-- the spans that share a number with this one are alike to it
abbrev pub AgreesWith : Span → List Span → Type 0
AgreesWith span spans = All (λ old. old.first ≤ span.last → span.first ≤ old.last → are_alike old span ≡ true) spans
