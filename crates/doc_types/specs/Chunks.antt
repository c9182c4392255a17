-- Chunks: what each call answers, as facts about the chunk's list of rows.
use Rattle.std.specs.Prelude.{◌≡◌, ◌<◌, ℕ, ◌-◌, ◌^◌, List, [], ◌∷◌, ◌++◌, Bool, true, false, ◌==◌, nat_lt, if◌then◌else◌, Option, Some, None, length, map, drop, slice_get, All, AllPairs, Contains}
use Rattle.std.specs.Option.{option_and_then, option_map_or}
use Rattle.std.specs.List.{filter, list_any, flat_map, enumerate_from, sum_by}
use Rattle.std.specs.Str.{bytes_eq}
use Rattle.std.specs.Cmp.Lexicographic.{slice_cmp}
use Rattle.std.specs.Ordering.{nat_cmp}
use Rattle.std.specs.declared.cmp.Ordering.TheVariants.{Less}
use Rattle.doc_types.specs.declared.cursor.TheConstants.{NO_ROW}
use Rattle.doc_types.specs.declared.documents.DocRow.{DocRow}
use Rattle.doc_types.specs.declared.schema.Schema.{Schema}
use Rattle.doc_types.specs.declared.schema.Value.{Value}
use Rattle.doc_types.specs.declared.tokens.FieldTokens.{FieldTokens}
use Rattle.doc_types.specs.declared.tokens.Gap.{Gap}
use Rattle.doc_types.specs.declared.tokens.Gap.TheVariants as gaps
use Rattle.doc_types.specs.declared.tokens.TokenWord.{TokenWord}
use Rattle.doc_types.specs.declared.tokens.ZoneSpan.{ZoneSpan}
use Rattle.doc_types.specs.Documents.{AreRowsOf, AreSmall}
use Rattle.doc_types.specs.Schemas.{IsSchema}

-- what a chunk holds: rows of some schema, and not too many of them
pub record IsContent (rows : List DocRow) : Type 0 where
  pub schema : Schema
  pub limits : IsSchema schema
  pub of : AreRowsOf schema rows
  pub small : AreSmall rows

-- the row's field of this number, and its value of that one, where they are there
abbrev pub field_at : List DocRow → ℕ → ℕ → Option FieldTokens
field_at rows row field = option_and_then (λ found. slice_get found.doc.fields field) (slice_get rows row)

abbrev pub value_at : List DocRow → ℕ → ℕ → Option Value
value_at rows row attr = option_and_then (λ found. slice_get found.doc.values attr) (slice_get rows row)

-- the numbers of the elements that pass, ascending, from 0
abbrev pub numbers_where : {X : Type 0} → (X → Bool) → List X → List ℕ
numbers_where passes xs = map (λ e. e.0) (filter (λ e. passes e.1) (enumerate_from 0 xs))

-- the token's word is this one
abbrev pub is_word : List ℕ → TokenWord → Bool
is_word word token = bytes_eq token.word word

-- the word stands in one of the row's fields
abbrev pub has_word : List ℕ → DocRow → Bool
has_word word row = list_any (λ field. list_any (is_word word) field.words) row.doc.fields

-- the rows that have the word, by their numbers, ascending
abbrev pub rows_with : List ℕ → List DocRow → List ℕ
rows_with word rows = numbers_where (has_word word) rows

-- the words of the rows: ascending by their bytes, each in some row, and all that some row has
pub record AreWordsOf (rows : List DocRow) (words : List (List ℕ)) : Type 0 where
  pub ascend : AllPairs (λ word later. slice_cmp nat_cmp word later ≡ Less) words
  pub each : All (λ word. 0 < length (rows_with word rows)) words
  pub all : (word : List ℕ) → 0 < length (rows_with word rows) → Contains words word

-- the position of the field's last word, or 0 where it has no word
abbrev pub last_position : FieldTokens → ℕ
last_position field = option_map_or (λ token. token.position) (slice_get field.words (length field.words - 1)) 0

-- the positions of the word in the field
abbrev pub positions_of : List ℕ → FieldTokens → List ℕ
positions_of word field = map (λ token. token.position) (filter (is_word word) field.words)

-- a boundary, of either kind
abbrev pub is_boundary : Gap → Bool
is_boundary gaps.None = false
is_boundary gaps.Sentence = true
is_boundary gaps.Paragraph = true

-- the boundaries of the field, each with the position that it takes
abbrev pub gaps_of : FieldTokens → List (ℕ × Gap)
gaps_of field = map (λ token. (token.position - 1, token.gap)) (filter (λ token. is_boundary token.gap) field.words)

-- what each field of the row has, field by field, each with the field's number
abbrev pub by_field : {X : Type 0} → (FieldTokens → List X) → DocRow → List (ℕ × X)
by_field items row = flat_map (λ e. map (λ x. (e.0, x)) (items e.1)) (enumerate_from 0 row.doc.fields)

-- the word's places in the row: field and position
abbrev pub hits_of : List ℕ → DocRow → List (ℕ × ℕ)
hits_of word row = by_field (positions_of word) row

-- the spans of the row: field and span
abbrev pub spans_of : DocRow → List (ℕ × ZoneSpan)
spans_of row = by_field (λ field. field.spans) row

-- Where a cursor stands: on its way over the rows that have a word, with these still ahead of it.
pub record CursorPlace : Type 0 where
  pub word : List ℕ
  pub ahead : List ℕ

-- a place among these rows: some have the word, and the rows ahead are the last ones of those that have it
pub record IsCursorPlace (rows : List DocRow) (place : CursorPlace) : Type 0 where
  pub some : 0 < length (rows_with place.word rows)
  pub behind : List ℕ
  pub both : behind ++ place.ahead ≡ rows_with place.word rows

-- the place before all rows that have the word
abbrev pub first_place : List ℕ → List DocRow → CursorPlace
first_place word rows = record { word = word; ahead = rows_with word rows }

-- the first row ahead, if there is one
abbrev pub next_row : CursorPlace → Option ℕ
next_row place = slice_get place.ahead 0

-- the place after the first row ahead, or the same where there is none
abbrev pub next_place : CursorPlace → CursorPlace
next_place place = record place { ahead = drop 1 place.ahead }

-- the places of the word in the first row ahead
abbrev pub hits_ahead : List DocRow → CursorPlace → List (ℕ × ℕ)
hits_ahead rows place = option_map_or (hits_of place.word) (option_and_then (slice_get rows) (next_row place)) []

-- the rows from this one on, of rows that ascend
abbrev pub rows_from : ℕ → List ℕ → List ℕ
rows_from from [] = []
rows_from from (row ∷ rows) = if nat_lt row from then rows_from from rows else row ∷ rows

-- the place after the rows below this one
abbrev pub place_from : ℕ → CursorPlace → CursorPlace
place_from from place = record place { ahead = rows_from from place.ahead }

-- the row that a number tells, where it isn't the one that stands for none
abbrev pub row_of : ℕ → Option ℕ
row_of number = if number == NO_ROW then None else Some number

-- the fields in which the row has the word, as bits: 1 for the first field, 2 for the second one, 4 for the third one
abbrev pub fields_with : List ℕ → DocRow → ℕ
fields_with word row = sum_by (λ e. if list_any (is_word word) e.1.words then 2 ^ e.0 else 0) (enumerate_from 0 row.doc.fields)

-- the fields in which the first row ahead has the word
abbrev pub fields_ahead : List DocRow → CursorPlace → ℕ
fields_ahead rows place = option_map_or (fields_with place.word) (option_and_then (slice_get rows) (next_row place)) 0
