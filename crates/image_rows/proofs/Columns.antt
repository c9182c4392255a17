-- Rows as they stand in an image: id, commit, values, and where their marks begin.
use Rattle.std.proofs.Common.{◌≡◌, ℕ, zero, suc, ◌+◌, ◌-◌, ◌*◌, ◌<◌, ◌≤◌, List, [], ◌∷◌, ◌++◌, length, refl, sym, ap, ◌∙◌, arith}
use Rattle.std.specs.Int.{w32, w64, cast_signed, cast_unsigned, to_le_bytes}
use Rattle.std.specs.List.{AllByRecursion, flat_map}
use Rattle.std.proofs.Math.Facts.{sfits_to_z}
use Rattle.std.proofs.lemmas.Int.{of_z-to_z}
use Rattle.std.proofs.lemmas.List.Elements.{All-from_recursion}
use Rattle.doc_types.specs.declared.schema.Schema.{Schema}
use Rattle.doc_types.specs.declared.schema.Value.{Value}
use Rattle.doc_types.specs.declared.schema.Value.TheVariants as values
use Rattle.byte_fields.proofs.Taking.{IsBytes}
use Rattle.doc_bytes.specs.Payload.{value_bytes}
use Rattle.doc_bytes.specs.RoundTrip.{IsNumber}
use Rattle.item_lists.specs.Items.{AllFit}
use Rattle.chunk_damage.specs.Header.{eight_in, four_in, row_at, row_size}
use Rattle.chunk_damage.specs.RowMarks.{AreTold, RowMarks, and_marks, mark_bytes, told_place}
use Rattle.chunk_damage.specs.RowOrder.{AreAscending, id_in}
use Rattle.image_rows.specs.steps.Contents.{RowColumns, row_spelled, rows_spelled}
use Rattle.image_rows.specs.steps.ContentsOf.{IdsAscend, AreColumns}
use Rattle.image_rows.proofs.Pieces.{eight_back, eight_small, four_back, piece, two_pieces}

-- so many values from this place on
abbrev pub values_in : ℕ → List ℕ → ℕ → List Value
values_in zero bytes at = []
values_in (suc n) bytes at = values.Whole (cast_signed w64 (eight_in bytes at)) ∷ values_in n bytes (at + 8)

-- what a row has beside its marks, and what rows with these marks have, the first of which has this number
abbrev pub columns_at : Schema → List ℕ → ℕ → RowColumns
columns_at schema bytes row = record {
  id = id_in schema bytes row;
  born = eight_in bytes (row_at schema row + 8);
  values = values_in (length schema.attrs) bytes (row_at schema row + 16);
}

abbrev pub columns_in : Schema → List ℕ → ℕ → List RowMarks → List RowColumns
columns_in schema bytes row [] = []
columns_in schema bytes row (m ∷ marks) = columns_at schema bytes row ∷ columns_in schema bytes (row + 1) marks

pub as_many : (schema : Schema) (bytes : List ℕ) (row : ℕ) (marks : List RowMarks) → length (columns_in schema bytes row marks) ≡ length marks
as_many schema bytes row [] = refl
as_many schema bytes row (m ∷ marks) = ap suc (as_many schema bytes (row + 1) marks)

-- ---- values

values_long : (n : ℕ) (bytes : List ℕ) (at : ℕ) → length (values_in n bytes at) ≡ n
values_long zero bytes at = refl
values_long (suc n) bytes at = ap suc (values_long n bytes (at + 8))

values_fit : (n : ℕ) (bytes : List ℕ) (at : ℕ) → IsBytes bytes → AllByRecursion IsNumber (values_in n bytes at)
values_fit zero bytes at fit = tt
values_fit (suc n) bytes at fit = (sfits_to_z {w = w64} {n = eight_in bytes at} (record { fits = eight_small at bytes fit }), values_fit n bytes (at + 8) fit)

values_are : (n : ℕ) (bytes : List ℕ) (at : ℕ) → IsBytes bytes → at + 8 * n ≤ length bytes → flat_map value_bytes (values_in n bytes at) ≡ piece (8 * n) at bytes
values_are zero bytes at fit long = refl
values_are (suc n) bytes at fit long =
    let number = eight_in bytes at in
    let back : cast_unsigned w64 (cast_signed w64 number) ≡ number = of_z-to_z w64 number (eight_small at bytes fit) in
    let first : value_bytes (values.Whole (cast_signed w64 number)) ≡ piece 8 at bytes = ap (to_le_bytes w64) back ∙ eight_back at bytes fit (omega (arith, long)) in
    let size : 8 * suc n ≡ 8 + 8 * n = omega arith in
    ap (λ l. l ++ flat_map value_bytes (values_in n bytes (at + 8))) first ∙ ap (λ l. piece 8 at bytes ++ l) (values_are n bytes (at + 8) fit (omega (arith, long)))
    ∙ sym (two_pieces 8 (8 * n) at bytes) ∙ ap (λ k. piece k at bytes) (sym size)

-- ---- a row

next_row : (schema : Schema) (row : ℕ) → row_at schema (row + 1) ≡ row_at schema row + row_size schema
next_row schema row = let w = row_size schema in omega arith

row_is : (schema : Schema) (bytes : List ℕ) (row : ℕ) → IsBytes bytes → row_at schema row + row_size schema ≤ length bytes
    → piece (row_size schema) (row_at schema row) bytes ≡ row_spelled (told_place schema bytes row) (columns_at schema bytes row)
row_is schema bytes row fit long =
    let a : ℕ = length schema.attrs in
    let at : ℕ = row_at schema row in
    let size : row_size schema ≡ 8 + 8 + 8 * a + 4 = omega arith in
    let told : row_at schema (row + 1) - 4 ≡ at + (8 + 8 + 8 * a) = omega (arith, next_row schema row) in
    let numbers = values_are a bytes (at + 16) fit (omega (arith, long)) in
    let id = eight_back at bytes fit (omega (arith, long)) in
    let born = eight_back (at + 8) bytes fit (omega (arith, long)) in
    let place : to_le_bytes w32 (told_place schema bytes row) ≡ piece 4 (at + (8 + 8 + 8 * a)) bytes = ap (λ k. to_le_bytes w32 (four_in bytes k)) told
    ∙ four_back (at + (8 + 8 + 8 * a)) bytes fit (omega (arith, long)) in
    ap (λ k. piece k at bytes) size
    ∙ two_pieces (8 + 8 + 8 * a) 4 at bytes
    ∙ ap (λ l. l ++ piece 4 (at + (8 + 8 + 8 * a)) bytes) (two_pieces (8 + 8) (8 * a) at bytes ∙ ap (λ l. l ++ piece (8 * a) (at + (8 + 8)) bytes) (two_pieces 8 8 at bytes))
    ∙ ap (λ l. l ++ piece 8 (at + 8) bytes ++ piece (8 * a) (at + 16) bytes ++ piece 4 (at + (8 + 8 + 8 * a)) bytes) (sym id)
    ∙ ap (λ l. to_le_bytes w64 (eight_in bytes at) ++ l ++ piece (8 * a) (at + 16) bytes ++ piece 4 (at + (8 + 8 + 8 * a)) bytes) (sym born)
    ∙ ap (λ l. to_le_bytes w64 (eight_in bytes at) ++ to_le_bytes w64 (eight_in bytes (at + 8)) ++ l ++ piece 4 (at + (8 + 8 + 8 * a)) bytes) (sym numbers)
    ∙ ap (λ l. to_le_bytes w64 (eight_in bytes at) ++ to_le_bytes w64 (eight_in bytes (at + 8)) ++ flat_map value_bytes (values_in a bytes (at + 16)) ++ l) (sym place)

-- ---- rows

row_times : (w row : ℕ) → suc row * w ≡ w + row * w
row_times w row = omega arith

pub rows_are : (schema : Schema) (bytes : List ℕ) (row at : ℕ) (marks : List RowMarks) → IsBytes bytes → row_at schema row + length marks * row_size schema ≤ length bytes
    → AllFit and_marks (AreTold schema bytes) (row, at) marks
    → piece (length marks * row_size schema) (row_at schema row) bytes ≡ rows_spelled at (columns_in schema bytes row marks) marks
rows_are schema bytes row at [] fit long told = let none : 0 * row_size schema ≡ 0 = omega arith in ap (λ k. piece k (row_at schema row) bytes) none
rows_are schema bytes row at (m ∷ marks) fit long told =
    let w : ℕ = row_size schema in
    let all : suc (length marks) * w ≡ w + length marks * w = row_times w (length marks) in
    let next : row_at schema (row + 1) ≡ row_at schema row + w = next_row schema row in
    let here : piece w (row_at schema row) bytes ≡ row_spelled at (columns_at schema bytes row) = row_is schema bytes row fit (omega (arith, long, all))
    ∙ ap (λ k. row_spelled k (columns_at schema bytes row)) told.0.told in
    let rest = rows_are schema bytes (row + 1) (at + length (mark_bytes m)) marks fit (omega (arith, long, all, next)) told.1 in
    ap (λ k. piece k (row_at schema row) bytes) all ∙ two_pieces w (length marks * w) (row_at schema row) bytes
    ∙ ap (λ l. l ++ piece (length marks * w) (row_at schema row + w) bytes) here
    ∙ ap (λ l. row_spelled at (columns_at schema bytes row) ++ l) (ap (λ k. piece (length marks * w) k bytes) (sym next) ∙ rest)

pub columns_fit : (schema : Schema) (bytes : List ℕ) (row : ℕ) (marks : List RowMarks) → IsBytes bytes
    → AllByRecursion (AreColumns (length schema.attrs)) (columns_in schema bytes row marks)
columns_fit schema bytes row [] fit = tt
columns_fit schema bytes row (m ∷ marks) fit = (
  record {
    id = eight_small (row_at schema row) bytes fit;
    born = eight_small (row_at schema row + 8) bytes fit;
    values = All-from_recursion IsNumber (values_in (length schema.attrs) bytes (row_at schema row + 16)) (values_fit (length schema.attrs) bytes (row_at schema row + 16) fit);
    many = values_long (length schema.attrs) bytes (row_at schema row + 16);
  },
  columns_fit schema bytes (row + 1) marks fit,
)

-- ---- ids

later_ids : (schema : Schema) (bytes : List ℕ) (rows least row : ℕ) (m : RowMarks) (marks : List RowMarks) → AreAscending schema bytes rows
    → row + 1 + length marks ≤ rows → least < id_in schema bytes row
    → AllByRecursion (λ (own : RowColumns). least < own.id) (columns_in schema bytes row (m ∷ marks))
later_ids schema bytes rows least row m [] ascend few low = (low, tt)
later_ids schema bytes rows least row m (n ∷ marks) ascend few low = (low, later_ids schema bytes rows least (row + 1) n marks ascend (omega (arith, few)) (omega (arith, low, ascend row (omega (arith, few)))))

pub ids_ascend : (schema : Schema) (bytes : List ℕ) (rows row : ℕ) (marks : List RowMarks) → AreAscending schema bytes rows → row + length marks ≤ rows
    → IdsAscend (columns_in schema bytes row marks)
ids_ascend schema bytes rows row [] ascend few = tt
ids_ascend schema bytes rows row (m ∷ []) ascend few = (tt, tt)
ids_ascend schema bytes rows row (m ∷ n ∷ marks) ascend few =
    (later_ids schema bytes rows (id_in schema bytes row) (row + 1) n marks ascend (omega (arith, few)) (ascend row (omega (arith, few))), ids_ascend schema bytes rows (row + 1) (n ∷ marks) ascend (omega (arith, few)))
