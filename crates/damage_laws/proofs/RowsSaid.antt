-- What the rows of an image say: their ids, which ascend, and where their marks begin.
use Rattle.std.proofs.Common.{◌≡◌, ℕ, zero, suc, ◌+◌, ◌-◌, ◌*◌, ◌<◌, ◌^◌, List, [], ◌∷◌, ◌++◌, map, length, take, drop, get_or, refl, sym, ap, subst, ◌∙◌, arith, All, AllPairs, append_assoc, length-append}
use Rattle.std.specs.Int.{w32, w64, from_le_bytes, to_le_bytes}
use Rattle.std.specs.List.{flat_map}
use Rattle.std.proofs.lemmas.List.{length-map}
use Rattle.std.proofs.lemmas.Nat.{from_le_bytes-to_le_bytes_8}
use Rattle.doc_types.specs.declared.documents.DocRow.{DocRow}
use Rattle.doc_types.specs.declared.schema.Schema.{Schema}
use Rattle.doc_types.specs.Documents.{AreRowsOf, IsDocOf}
use Rattle.doc_types.specs.Schemas.{IsSchema}
use Rattle.doc_types.proofs.Numbers.{All-tail}
use Rattle.doc_bytes.specs.Payload.{value_bytes}
use Rattle.chunk_image.specs.Marks.{row_marks}
use Rattle.chunk_image.specs.ChunkImage.{HasRoom, dictionary_bytes, marks_bytes, postings_bytes, row_bytes, rows_bytes, table_bytes}
use Rattle.image_parts.specs.Images.{HasZones}
use Rattle.image_parts.proofs.Split.{row_size as bytes_of_row, values_size}
use Rattle.item_lists.specs.Items.{AllFit, spelled}
use Rattle.chunk_damage.specs.Header.{row_at, row_size, rows_in}
use Rattle.chunk_damage.specs.RowOrder.{AreAscending, id_in}
use Rattle.chunk_damage.specs.RowMarks.{AreMarks, AreTold, RowMarks, and_marks, bytes_of, mark_bytes, told_place}
use Rattle.damage_laws.proofs.LaidOut.{IsLaidOut, four_here, past}
use Rattle.damage_laws.proofs.RowMarking.{are_marks, same_bytes}
use Rattle.damage_laws.proofs.RowOwners.{row_marks_of}

-- the rows from this number on say these ids, and that their marks begin one behind the other from here on
abbrev AreSaid : Schema → List ℕ → ℕ → ℕ → List DocRow → Type 0
AreSaid schema bytes n at [] = Unit {0}
AreSaid schema bytes n at (row ∷ rows) = (id_in schema bytes n ≡ row.doc.id) × (told_place schema bytes n ≡ at) × AreSaid schema bytes (n + 1) (at + length (row_marks row)) rows

told_at : (n size front : ℕ) → size ≡ front + 4 → 32 + (n + 1) * size - 4 ≡ 32 + n * size + front
told_at n size front e = omega (arith, e)

next_at : (n size long : ℕ) → long ≡ size → 32 + (n + 1) * size ≡ 32 + n * size + long
next_at n size long e = omega (arith, e)

said : (schema : Schema) (bytes rest : List ℕ) (n at : ℕ) (rows : List DocRow) → drop (row_at schema n) bytes ≡ rows_bytes at rows ++ rest → All HasRoom rows → All (λ (row : DocRow). length row.doc.values ≡ length schema.attrs) rows
    → at + length (marks_bytes rows) < 2 ^ 32 → AreSaid schema bytes n at rows
said schema bytes rest n at [] here room values low = tt
said schema bytes rest n at (row ∷ rows) here room values low =
    let front : List ℕ = to_le_bytes w64 row.doc.id ++ to_le_bytes w64 row.born ++ flat_map value_bytes row.doc.values in
    let others : List ℕ = rows_bytes (at + length (row_marks row)) rows in
    let place : List ℕ = to_le_bytes w32 at in
    let own : length row.doc.values ≡ length schema.attrs = values zero row (omega arith) in
    let long : row_size schema ≡ length front + 4 = omega (arith, length-append (to_le_bytes w64 row.doc.id ++ to_le_bytes w64 row.born) (flat_map value_bytes row.doc.values), values_size row.doc.values, own) in
    let size : length (row_bytes at row) ≡ row_size schema = omega (arith, bytes_of_row at row, own) in
    let whole : drop (row_at schema n) bytes ≡ row_bytes at row ++ (others ++ rest) = here ∙ append_assoc (row_bytes at row) others rest in
    let marks : at + length (row_marks row) + length (marks_bytes rows) < 2 ^ 32 = omega (arith, low, length-append (row_marks row) (marks_bytes rows)) in (
      ap (λ l. from_le_bytes w64 (take 8 l)) whole ∙ from_le_bytes-to_le_bytes_8 row.doc.id (room zero row (omega arith)).id,
      four_here bytes (others ++ rest) (row_at schema (n + 1) - 4) at
          (past bytes front (place ++ (others ++ rest)) (row_at schema n) (row_at schema (n + 1) - 4) (whole ∙ append_assoc front place (others ++ rest)) (told_at n (row_size schema) (length front) long)) (omega (arith, marks)),
      said schema bytes rest (n + 1) (at + length (row_marks row)) rows (past bytes (row_bytes at row) (others ++ rest) (row_at schema n) (row_at schema (n + 1)) whole (next_at n (row_size schema) (length (row_bytes at row)) size))
          (All-tail HasRoom row rows room) (All-tail (λ (row : DocRow). length row.doc.values ≡ length schema.attrs) row rows values) marks,
    )

id_said : (schema : Schema) (bytes : List ℕ) (n at k : ℕ) (rows : List DocRow) (d : DocRow) → AreSaid schema bytes n at rows → k < length rows → id_in schema bytes (n + k) ≡ (get_or rows k d).doc.id
id_said schema bytes n at k [] d said low = absurd (omega (arith, low))
id_said schema bytes n at zero (row ∷ rows) d said low = let same : n + 0 ≡ n = omega arith in ap (id_in schema bytes) same ∙ said.0
id_said schema bytes n at (suc k) (row ∷ rows) d said low = let same : n + suc k ≡ n + 1 + k = omega arith in ap (id_in schema bytes) same ∙ id_said schema bytes (n + 1) (at + length (row_marks row)) k rows d said.2 (omega (arith, low))

-- ids ascend
ascending : (schema : Schema) (bytes : List ℕ) (rows : List DocRow) → AreSaid schema bytes 0 0 rows → AllPairs (λ (row later : DocRow). row.doc.id < later.doc.id) rows → AreAscending schema bytes (length rows)
ascending schema bytes [] said ids k low = absurd (omega (arith, low))
ascending schema bytes (row ∷ rows) said ids k low =
    let own : id_in schema bytes (0 + k) ≡ (get_or (row ∷ rows) k row).doc.id = id_said schema bytes 0 0 k (row ∷ rows) row said (omega (arith, low)) in
    let next : id_in schema bytes (0 + (k + 1)) ≡ (get_or (row ∷ rows) (k + 1) row).doc.id = id_said schema bytes 0 0 (k + 1) (row ∷ rows) row said low in
    let here : 0 + k ≡ k = omega arith in let there : 0 + (k + 1) ≡ k + 1 = omega arith in
    let below = ids k (k + 1) row (omega arith) low in
    omega (arith, below, own, next, ap (id_in schema bytes) here, ap (id_in schema bytes) there)

-- ---- marks

marks_fit : (schema : Schema) (bytes : List ℕ) (n at : ℕ) (rows : List DocRow) → IsSchema schema → All (λ (row : DocRow). IsDocOf schema row.doc) rows → All HasZones rows → AreSaid schema bytes n at rows → AllFit and_marks (AreTold schema bytes) (n, at) (map row_marks_of rows)
marks_fit schema bytes n at [] limits are zones said = tt
marks_fit schema bytes n at (row ∷ rows) limits are zones said =
    let size : at + length (row_marks row) ≡ at + length (mark_bytes (row_marks_of row)) = ap (λ l. at + length l) (sym (same_bytes row)) in (
      record { told = said.1; fits = are_marks schema row limits (are zero row (omega arith)) (zones zero row (omega arith)).fit },
      marks_fit schema bytes (n + 1) (at + length (mark_bytes (row_marks_of row))) rows limits (All-tail (λ (row : DocRow). IsDocOf schema row.doc) row rows are) (All-tail HasZones row rows zones)
          (subst (λ k. AreSaid schema bytes (n + 1) k rows) size said.2),
    )

marks_spelled : (before : ℕ × ℕ) (rows : List DocRow) → spelled bytes_of and_marks before (map row_marks_of rows) ≡ marks_bytes rows
marks_spelled before [] = refl
marks_spelled before (row ∷ rows) =
    ap (λ l. l ++ spelled bytes_of and_marks (and_marks before (row_marks_of row)) (map row_marks_of rows)) (same_bytes row) ∙ ap (λ l. row_marks row ++ l) (marks_spelled (and_marks before (row_marks_of row)) rows)

-- what the rows of an image say is as it may be
pub record AreRowsGood (schema : Schema) (rows : List DocRow) (bytes : List ℕ) : Type 0 where
  pub order : AreAscending schema bytes (rows_in bytes)
  pub marks : AreMarks schema bytes (map row_marks_of rows)

pub rows_good : (schema : Schema) (rows : List DocRow) (words : List (List ℕ)) (bytes : List ℕ) → IsSchema schema → AreRowsOf schema rows → All HasRoom rows → All HasZones rows → IsLaidOut schema rows words bytes → AreRowsGood schema rows bytes
rows_good schema rows words bytes limits are room zones laid =
    let start : row_at schema 0 ≡ 32 = omega arith in
    let rest : List ℕ = marks_bytes rows ++ (table_bytes rows 0 0 words ++ (dictionary_bytes words ++ postings_bytes rows words)) in
    let its : AreSaid schema bytes 0 0 rows = said schema bytes rest 0 0 rows (ap (λ k. drop k bytes) start ∙ laid.rows_at) room (λ k d h. (are.docs k d h).values) (omega (arith, laid.short)) in
    record {
      order = subst (AreAscending schema bytes) (sym laid.rows_n) (ascending schema bytes rows its are.ids);
      marks = record {
        counted = length-map {B = RowMarks} rows row_marks_of ∙ sym laid.rows_n;
        fit = marks_fit schema bytes 0 0 rows limits are.docs zones its;
        is = laid.marks ∙ sym (marks_spelled (0, 0) rows);
      };
    }
