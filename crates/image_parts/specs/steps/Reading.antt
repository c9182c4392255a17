-- Short numbers in a row, and what marks are read as.
use Rattle.std.specs.Prelude.{◌≡◌, ◌<◌, ◌≤◌, ◌^◌, ℕ, List, [], ◌∷◌, true, All}
use Rattle.std.specs.List.{flat_map}
use Rattle.doc_types.specs.declared.tokens.Gap.{Gap}
use Rattle.doc_types.specs.declared.tokens.TheConstants.{MAX_POSITION}
use Rattle.doc_types.specs.declared.tokens.ZoneSpan.{ZoneSpan}
use Rattle.doc_types.specs.Chunks.{is_boundary}
use Rattle.posting_codec.specs.Numbers.{number}
use Rattle.image_parts.specs.steps.Standing.{StandsAt}

-- these numbers are spelled at this place, one behind the other
pub record AreNumbersAt (bytes : List ℕ) (at : ℕ) (numbers : List ℕ) : Type 0 where
  pub fit : All (λ n. n < 2 ^ 32) numbers
  pub here : StandsAt bytes at (flat_map number numbers)

-- boundaries one behind the other, the first one behind this position or at it, none at a position that no field has
abbrev pub GoOn : ℕ → List (ℕ × Gap) → Type 0
GoOn before [] = Unit {0}
GoOn before (gap ∷ others) = (before ≤ gap.0) × (gap.0 ≤ MAX_POSITION) × (is_boundary gap.1 ≡ true) × GoOn gap.0 others

-- a span with its field, whose numbers have room
pub record IsRoomy (span : ℕ × ZoneSpan) : Type 0 where
  pub field : span.0 < 2 ^ 16
  pub zone : span.1.zone < 2 ^ 16
  pub order : span.1.first ≤ span.1.last
  pub last : span.1.last < 2 ^ 32
