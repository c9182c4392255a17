-- Spans of the numbers of characters, and the numbers of their values.
use Rattle.std.specs.Prelude.{ℕ, ◌+◌, ◌-◌, List, [], ◌∷◌, ◌&&◌, nat_le, Option, Some, None, if◌then◌else◌}
use Rattle.std.specs.Option.{option_map, option_or}
use Rattle.charset_map.specs.declared.span.Span.{Span}
use Rattle.charset_map.specs.Characters.{ordinal, character_at}

-- the value of a number in a span
abbrev pub number_in : Span → ℕ → Option ℕ
number_in span n = if nat_le span.first n && nat_le n span.last then Some (span.value + (n - span.first)) else None

-- the value by a list of spans
abbrev pub number_of : List Span → ℕ → Option ℕ
number_of [] n = None
number_of (span ∷ spans) n = option_or (number_in span n) (number_of spans n)

-- the value of a character by a list of spans, where it has one
abbrev pub folded : List Span → ℕ → Option ℕ
folded spans c = option_map character_at (number_of spans (ordinal c))
