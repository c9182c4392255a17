-- Marks: what a row has beside its words, as short numbers. They are its boundaries, field by field, and its spans of zones.
use Rattle.std.specs.Prelude.{ℕ, ◌+◌, ◌-◌, ◌*◌, List, [], ◌∷◌, ◌++◌, length}
use Rattle.std.specs.List.{flat_map}
use Rattle.doc_types.specs.declared.documents.DocRow.{DocRow}
use Rattle.doc_types.specs.declared.tokens.FieldTokens.{FieldTokens}
use Rattle.doc_types.specs.declared.tokens.Gap.{Gap}
use Rattle.doc_types.specs.declared.tokens.Gap.TheVariants as gaps
use Rattle.doc_types.specs.declared.tokens.ZoneSpan.{ZoneSpan}
use Rattle.doc_types.specs.Chunks.{gaps_of, last_position, spans_of}
use Rattle.posting_codec.specs.Numbers.{number}

-- the bit of a boundary's kind
abbrev pub kind_bit : Gap → ℕ
kind_bit gaps.None = 0
kind_bit gaps.Sentence = 0
kind_bit gaps.Paragraph = 1

-- boundaries with the positions that they take, each as twice its distance from the one before, and its kind
abbrev pub gap_numbers : ℕ → List (ℕ × Gap) → List ℕ
gap_numbers before [] = []
gap_numbers before (gap ∷ others) = (2 * (gap.0 - before) + kind_bit gap.1) ∷ gap_numbers gap.0 others

-- a field: the position of its last word, the number of its boundaries, and these
abbrev pub field_numbers : FieldTokens → List ℕ
field_numbers field = last_position field ∷ length (gaps_of field) ∷ gap_numbers 0 (gaps_of field)

-- a span: its field and zone, the position of its first word, and how far its last word lies behind that
abbrev pub span_numbers : ℕ × ZoneSpan → List ℕ
span_numbers span = span.0 ∷ span.1.zone ∷ span.1.first ∷ (span.1.last - span.1.first) ∷ []

-- a row: its fields, the number of its spans, and these
abbrev pub mark_numbers : DocRow → List ℕ
mark_numbers row = flat_map field_numbers row.doc.fields ++ length (spans_of row) ∷ flat_map span_numbers (spans_of row)

-- a row's marks
unfoldable pub row_marks : DocRow → List ℕ
row_marks row = flat_map number (mark_numbers row)
