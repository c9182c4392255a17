-- Marks: of each row the position of each field's last word and the field's boundaries, then the row's spans. All are short numbers.
use Rattle.std.specs.Prelude.{◌≡◌, ℕ, ◌+◌, ◌-◌, ◌*◌, ◌<◌, ◌≤◌, ◌^◌, List, [], ◌∷◌, ◌++◌, Bool, true, ◌==◌, ◌&&◌, nat_le, not, Option, Some, None, length, get_or}
use Rattle.std.specs.List.{AllByRecursion, flat_map, list_any}
use Rattle.doc_types.specs.declared.schema.Schema.{Schema}
use Rattle.doc_types.specs.declared.tokens.Gap.{Gap}
use Rattle.doc_types.specs.declared.tokens.TheConstants.{MAX_POSITION}
use Rattle.doc_types.specs.Chunks.{is_boundary}
use Rattle.byte_fields.specs.Fields.{AllFrom}
use Rattle.doc_bytes.specs.Reading.{FieldSpan, is_behind}
use Rattle.posting_codec.specs.Numbers.{number}
use Rattle.chunk_image.specs.Marks.{gap_numbers, kind_bit, span_numbers}
use Rattle.item_lists.specs.Items.{AreAllItems, IsFirstWrong}
use Rattle.chunk_damage.specs.Header.{four_in, marks_part, row_at, rows_in}

-- what the marks of a field say: the position of its last word, and its boundaries with the positions that they take
pub record FieldMarks : Type 0 where
  pub last : ℕ
  pub gaps : List (ℕ × Gap)

-- what those of a row say
pub record RowMarks : Type 0 where
  pub fields : List FieldMarks
  pub spans : List FieldSpan

-- their numbers and their bytes
abbrev pub field_numbers : FieldMarks → List ℕ
field_numbers m = m.last ∷ length m.gaps ∷ gap_numbers 0 m.gaps

abbrev pub mark_numbers : RowMarks → List ℕ
mark_numbers m = flat_map field_numbers m.fields ++ length m.spans ∷ flat_map span_numbers m.spans

unfoldable pub mark_bytes : RowMarks → List ℕ
mark_bytes m = flat_map number (mark_numbers m)

-- a boundary at a position behind this one; its number has room
pub record IsGapBehind (before : ℕ) (gap : ℕ × Gap) : Type 0 where
  pub behind : before < gap.0
  pub kind : is_boundary gap.1 ≡ true
  pub counted : 2 * (gap.0 - before) + kind_bit gap.1 < 2 ^ 32

-- the marks of a field: a last position within the limit, and boundaries that ascend
pub record AreFieldMarks (m : FieldMarks) : Type 0 where
  pub short : m.last ≤ MAX_POSITION
  pub few : length m.gaps < 2 ^ 32
  pub ascend : AllFrom IsGapBehind (λ gap. gap.0) 0 m.gaps

-- a boundary takes the position
abbrev pub is_taken : List (ℕ × Gap) → ℕ → Bool
is_taken gaps position = list_any (λ gap. gap.0 == position) gaps

-- a field without a word
abbrev pub empty_field : FieldMarks
empty_field = record { last = 0; gaps = [] }

-- a word stands at this position of the field of this number: it is one of the field's positions, and no boundary takes it
abbrev pub has_word_at : List FieldMarks → ℕ → ℕ → Bool
has_word_at fields field position =
    nat_le 1 position && (nat_le position (get_or fields field empty_field).last && not (is_taken (get_or fields field empty_field).gaps position))

-- a span that may follow another one: it is of one of these fields, from a word of it to this or a later one
pub record IsSpanIn (fields : List FieldMarks) (before : Option FieldSpan) (span : FieldSpan) : Type 0 where
  pub field : span.0 < length fields
  pub zone : span.1.zone < 2 ^ 16
  pub order : span.1.first ≤ span.1.last
  pub begins : has_word_at fields span.0 span.1.first ≡ true
  pub ends : has_word_at fields span.0 span.1.last ≡ true
  pub behind : is_behind before span ≡ true

-- the marks of a row of so many fields
pub record AreMarksOf (fields : ℕ) (m : RowMarks) : Type 0 where
  pub many : length m.fields ≡ fields
  pub fields_fit : AllByRecursion AreFieldMarks m.fields
  pub few : length m.spans < 2 ^ 32
  pub spans_fit : AllFrom (IsSpanIn m.fields) Some None m.spans

-- how many rows come before, and how many bytes of marks they have
abbrev pub Before : Type 0
Before = ℕ × ℕ

abbrev pub and_marks : Before → RowMarks → Before
and_marks before m = (before.0 + 1, before.1 + length (mark_bytes m))

abbrev pub bytes_of : Before → RowMarks → List ℕ
bytes_of before m = mark_bytes m

-- where a row says that its marks begin: its last four bytes
abbrev pub told_place : Schema → List ℕ → ℕ → ℕ
told_place schema bytes row = four_in bytes (row_at schema (row + 1) - 4)

-- the marks of the row behind these, which says where they begin
pub record AreTold (schema : Schema) (bytes : List ℕ) (before : Before) (m : RowMarks) : Type 0 where
  pub told : told_place schema bytes before.0 ≡ before.1
  pub fits : AreMarksOf (length schema.fields) m

-- the marks are those of the rows
abbrev pub AreMarks : Schema → List ℕ → List RowMarks → Type 0
AreMarks schema bytes marks = AreAllItems bytes_of and_marks (AreTold schema bytes) (marks_part schema bytes) (0, 0) (rows_in bytes) marks

-- they aren't, first at this place among the marks
abbrev pub AreBadMarks : Schema → List ℕ → ℕ → Type 0
AreBadMarks schema bytes place = IsFirstWrong bytes_of and_marks (AreTold schema bytes) (marks_part schema bytes) (0, 0) (rows_in bytes) place
