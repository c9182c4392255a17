-- Marks as items one behind the other.
use Rattle.std.specs.Prelude.{◌≡◌, ℕ, ◌-◌, ◌*◌, ◌+◌, List, [], ◌∷◌, ◌++◌, length, drop}
use Rattle.doc_types.specs.declared.tokens.Gap.{Gap}
use Rattle.posting_codec.specs.Numbers.{number}
use Rattle.chunk_image.specs.Marks.{kind_bit}
use Rattle.item_lists.specs.Items.{spelled}
use Rattle.item_lists.specs.steps.Places.{AreItemsAt}
use Rattle.chunk_damage.specs.RowMarks.{AreFieldMarks, AreMarksOf, FieldMarks, IsGapBehind, RowMarks, mark_bytes}
use Rattle.image_marks.specs.Markings.{row_starts, row_bits}

-- a boundary behind this position
abbrev pub gap_bytes : ℕ → ℕ × Gap → List ℕ
gap_bytes before gap = number (2 * (gap.0 - before) + kind_bit gap.1)

abbrev pub and_gap : ℕ → ℕ × Gap → ℕ
and_gap before gap = gap.0

abbrev pub AreGapsAt : List ℕ → ℕ → ℕ → List (ℕ × Gap) → List ℕ → Type 0
AreGapsAt bytes at count gaps rest = AreItemsAt gap_bytes and_gap IsGapBehind bytes at 0 count gaps rest

abbrev pub gaps_bytes : List (ℕ × Gap) → List ℕ
gaps_bytes gaps = spelled gap_bytes and_gap 0 gaps

-- a field: the position of its last word, the number of its boundaries, and these
abbrev pub field_bytes : Unit {0} → FieldMarks → List ℕ
field_bytes _ m = number m.last ++ (number (length m.gaps) ++ gaps_bytes m.gaps)

abbrev pub and_field : Unit {0} → FieldMarks → Unit {0}
and_field _ m = tt

abbrev pub IsField : Unit {0} → FieldMarks → Type 0
IsField _ m = AreFieldMarks m

abbrev pub AreFieldsAt : List ℕ → ℕ → ℕ → List FieldMarks → List ℕ → Type 0
AreFieldsAt bytes at count ms rest = AreItemsAt field_bytes and_field IsField bytes at tt count ms rest

abbrev pub fields_bytes : List FieldMarks → List ℕ
fields_bytes ms = spelled field_bytes and_field tt ms

-- the marks of a row are spelled at this place
pub record AreRowMarksAt (bytes : List ℕ) (at fields : ℕ) (m : RowMarks) (rest : List ℕ) : Type 0 where
  pub fits : AreMarksOf fields m
  pub here : drop at bytes ≡ mark_bytes m ++ rest

-- where the places of rows and of their fields begin
abbrev pub rows_begun : List ℕ → List RowMarks → List ℕ
rows_begun bits [] = []
rows_begun bits (m ∷ marks) = row_starts bits m.fields ++ rows_begun (row_bits bits m.fields) marks
