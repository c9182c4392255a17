-- The values of the first characters, side by side.
use Rattle.std.specs.Prelude.{◌≡◌, ℕ, ◌<◌, List, Option, None, slice_index_or}
use Rattle.charset_map.specs.declared.span.Span.{Span}
use Rattle.charset_map.specs.Spans.{folded}

-- the list has the values of the first so many characters
abbrev pub HasAscii : List Span → List (Option ℕ) → ℕ → Type 0
HasAscii spans values count = (c : ℕ) → c < count → slice_index_or values c None ≡ folded spans c
