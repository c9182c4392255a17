-- The kinds of names.
use Rattle.std.specs.Prelude.{ℕ, Bool}
use Rattle.query_pieces.specs.QueryBytes.{begins_field, is_field_byte, begins_zone, is_zone_byte}
use Rattle.query_pieces.specs.Operators.{NamesAt, NumberAt}
use Rattle.query_pieces.specs.Letters.{Letter}
use Rattle.query_pieces.specs.declared.letters.Folded.{Folded}
use Rattle.query_pieces.specs.declared.operators.Named.{Named}
use Rattle.query_pieces.specs.declared.operators.Numbered.{Numbered}
use Rattle.query_pieces.specs.declared.bytes.NameKind.{NameKind}
use Rattle.query_pieces.specs.declared.bytes.NameKind.TheVariants as kinds

-- with which a name begins
abbrev pub begins_of : NameKind → ℕ → Bool
begins_of kinds.Field b = begins_field b
begins_of kinds.Zone b = begins_zone b

-- with which it goes on
abbrev pub further_of : NameKind → ℕ → Bool
further_of kinds.Field b = is_field_byte b
further_of kinds.Zone b = is_zone_byte b

-- what a reader answers, as the definitions have it
abbrev pub named_of : Named → NamesAt
named_of found = record { names = found.names; to = found.to }

abbrev pub numbered_of : Numbered → NumberAt
numbered_of found = record { number = found.number; to = found.to }

abbrev pub letter_is : Folded → Letter
letter_is found = record { folded = found.letter; to = found.to }
