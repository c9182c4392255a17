-- The places that the marks of rows lay out in a list of bits, and which of them boundaries take: of each row one that is taken from the
-- beginning, then those of each field's positions. A row in which a boundary stands at an end of its field, beside another one or beyond
-- is noted.
use Rattle.std.specs.Prelude.{ℕ, ◌+◌, ◌-◌, List, [], ◌∷◌, ◌++◌, Bool, false, ◌||◌, nat_lt, nat_le, if◌then◌else◌, length, replicate, slice_set}
use Rattle.doc_types.specs.declared.tokens.Gap.{Gap}
use Rattle.chunk_damage.specs.RowMarks.{FieldMarks, RowMarks, empty_field}
use Rattle.image_cover.specs.Places.{with_row}

-- a boundary takes the place of its position, if the field has it; here the field's places begin, and that is its last position
abbrev pub with_bit : ℕ → ℕ → List ℕ → ℕ → List ℕ
with_bit start last bits position = if nat_le position last then slice_set bits (start + position - 1) 1 else bits

abbrev pub gap_bits : ℕ → ℕ → List ℕ → List (ℕ × Gap) → List ℕ
gap_bits start last bits [] = bits
gap_bits start last bits (gap ∷ gaps) = gap_bits start last (with_bit start last bits gap.0) gaps

-- the places with those of a field, of some fields, of a row, and of rows behind them
abbrev pub field_bits : List ℕ → FieldMarks → List ℕ
field_bits bits m = gap_bits (length bits) m.last (bits ++ replicate m.last 0) m.gaps

abbrev pub fields_bits : List ℕ → List FieldMarks → List ℕ
fields_bits bits [] = bits
fields_bits bits (m ∷ ms) = fields_bits (field_bits bits m) ms

abbrev pub row_bits : List ℕ → List FieldMarks → List ℕ
row_bits bits ms = fields_bits (bits ++ 1 ∷ []) ms

abbrev pub rows_bits : List ℕ → List RowMarks → List ℕ
rows_bits bits [] = bits
rows_bits bits (m ∷ marks) = rows_bits (row_bits bits m.fields) marks

-- where the places of each field begin, those of a row and of each of its fields, and those of rows, and where the last ones end
abbrev pub fields_starts : List ℕ → List FieldMarks → List ℕ
fields_starts bits [] = []
fields_starts bits (m ∷ ms) = length bits ∷ fields_starts (field_bits bits m) ms

abbrev pub row_starts : List ℕ → List FieldMarks → List ℕ
row_starts bits ms = length bits ∷ fields_starts (bits ++ 1 ∷ []) ms

abbrev pub rows_starts : List ℕ → List RowMarks → List ℕ
rows_starts bits [] = length bits ∷ []
rows_starts bits (m ∷ marks) = row_starts bits m.fields ++ rows_starts (row_bits bits m.fields) marks

-- a boundary stands at an end of its field, beside the one before or beyond
abbrev pub is_misplaced : ℕ → ℕ → ℕ → Bool
is_misplaced before last position = nat_lt position (before + 2) || nat_le last position

abbrev pub some_misplaced : ℕ → ℕ → List (ℕ × Gap) → Bool
some_misplaced before last [] = false
some_misplaced before last (gap ∷ gaps) = is_misplaced before last gap.0 || some_misplaced gap.0 last gaps

-- the least row that is noted, where this one is too if something is wrong in it
abbrev pub noted : Bool → ℕ → ℕ → ℕ
noted wrong row least = if wrong then with_row least row else least

abbrev pub fields_least : ℕ → ℕ → List FieldMarks → ℕ
fields_least row least [] = least
fields_least row least (m ∷ ms) = fields_least row (noted (some_misplaced 0 m.last m.gaps) row least) ms

-- the same for rows, the first of which has this number
abbrev pub rows_least : ℕ → ℕ → List RowMarks → ℕ
rows_least row least [] = least
rows_least row least (m ∷ marks) = rows_least (row + 1) (fields_least row least m.fields) marks

-- ---- how many places there are

-- a row with so many fields, and no word in any of them
abbrev pub emptied : RowMarks → RowMarks
emptied m = record { fields = replicate (length m.fields) empty_field; spans = [] }

-- A row is laid out with its positions while there are no more than so many places before it, and as one without words behind that.
abbrev pub laid_row : ℕ → List ℕ → RowMarks → RowMarks
laid_row enough bits m = if nat_le (length bits) enough then m else emptied m

abbrev pub laid_rows : ℕ → List ℕ → List RowMarks → List RowMarks
laid_rows enough bits [] = []
laid_rows enough bits (m ∷ marks) = laid_row enough bits m ∷ laid_rows enough (row_bits bits (laid_row enough bits m).fields) marks
