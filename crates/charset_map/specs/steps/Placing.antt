-- Where a span goes among others.
use Rattle.std.specs.Prelude.{◌≡◌, ◌≤◌, List, ◌∷◌, ◌++◌, length, take, drop}
use Rattle.charset_map.specs.declared.span.Span.{Span}
use Rattle.charset_map.specs.declared.spans.Place.{Place}
use Rattle.charset_map.specs.steps.SpanLists.{with_span, AgreesWith}

-- the spans between the two places are joined with it, and none has another value of a number
pub record IsPlaceFor (span : Span) (spans : List Span) (place : Place) : Type 0 where
  pub order : place.from ≤ place.to
  pub within : place.to ≤ length spans
  pub new : take place.from spans ++ place.whole ∷ drop place.to spans ≡ with_span span spans
  pub agrees : AgreesWith span spans
