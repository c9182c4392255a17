-- What limits stand for. A group begins with the limits around it.
use Rattle.std.specs.Prelude.{ℕ, ◌+◌, ◌*◌, List, [], ◌∷◌, Bool, false, not, Option, Some, None, if◌then◌else◌}
use Rattle.query_pieces.specs.declared.piece.Slice.{Slice}
use Rattle.query_pieces.specs.declared.piece.Names.{Names}
use Rattle.query_pieces.specs.declared.piece.Names.TheVariants as names
use Rattle.query_pieces.specs.declared.piece.FieldLimit.{FieldLimit}
use Rattle.query_pieces.specs.declared.piece.ZoneLimit.{ZoneLimit}
use Rattle.query_marks.specs.declared.limits.Limits.{Limits}
use Rattle.query_marks.specs.LimitNames.{bytes_of, is_listed, number_of}

-- the fields that pass a test, the first by the lowest bit
abbrev pub mask : (List ℕ → Bool) → List (List ℕ) → ℕ
mask keeps [] = 0
mask keeps (field ∷ fields) = (if keeps field then 1 else 0) + 2 * mask keeps fields

-- a field limit keeps a field: one that it names, or one that it doesn't
abbrev pub keeps : List ℕ → Bool → Names → List ℕ → Bool
keeps text negated names.All field = not negated
keeps text negated (names.Listed s) field = if negated then not (is_listed (bytes_of text s) field) else is_listed (bytes_of text s) field

-- the greatest position of a limit
abbrev pub positions_of : List ℕ → Option Slice → ℕ
positions_of text None = 65535
positions_of text (Some s) = number_of (bytes_of text s)

-- A field limit replaces field, position and zone limit.
abbrev pub field_limits : List (List ℕ) → List ℕ → FieldLimit → Limits
field_limits fields text limit = record { fields = mask (keeps text limit.negated limit.names) fields; positions = positions_of text limit.positions; zones = None; span = false }

-- A zone limit replaces the zone limit. Without zones in the index it changes nothing.
abbrev pub zone_limits : List (List ℕ) → ZoneLimit → Limits → Limits
zone_limits [] limit here = here
zone_limits (zone ∷ zones) limit here = record { fields = here.fields; positions = here.positions; zones = if limit.span then None else Some limit.names; span = limit.span }
