-- The marks of a field and of a span.
use Rattle.std.specs.Prelude.{ℕ, List}
use Rattle.std.specs.List.{flat_map}
use Rattle.doc_types.specs.declared.tokens.FieldTokens.{FieldTokens}
use Rattle.doc_types.specs.declared.tokens.ZoneSpan.{ZoneSpan}
use Rattle.posting_codec.specs.Numbers.{number}
use Rattle.chunk_image.specs.Marks.{field_numbers, span_numbers}

abbrev pub field_marks : FieldTokens → List ℕ
field_marks field = flat_map number (field_numbers field)

abbrev pub span_marks : ℕ × ZoneSpan → List ℕ
span_marks span = flat_map number (span_numbers span)

-- the same of a span of the field of this number
abbrev pub marks_in : ℕ → ZoneSpan → List ℕ
marks_in field span = flat_map number (span_numbers (field, span))
