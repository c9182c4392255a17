-- How long an image is, and places by their low bits.
use Rattle.std.proofs.Common.{◌≡◌, ◌+◌, ◌++◌, ℕ, List, length, refl, ap, arith, length-append}
use Rattle.std.specs.Int.{w32, w64, to_le_bytes}
use Rattle.std.specs.List.{flat_map}
use Rattle.doc_bytes.specs.Payload.{value_bytes}
use Rattle.doc_types.specs.declared.documents.DocRow.{DocRow}
use Rattle.doc_types.specs.declared.schema.Schema.{Schema}
use Rattle.doc_types.specs.Chunks.{AreWordsOf}
use Rattle.chunk_image.specs.ChunkImage.{dictionary_bytes, header_bytes, image, marks_bytes, postings_bytes, row_bytes, rows_bytes, table_bytes}
use Rattle.image_write.specs.declared.words.Tables.{Tables}
use Rattle.image_join.specs.JoinedImages.{HasImageLength}
use Rattle.image_join.specs.steps.Merging.{AreTables}

-- an entry with the places that its bytes tell
pub placed : (old : List ℕ) (place list at behind n : ℕ) → to_le_bytes w32 place ≡ to_le_bytes w32 at → to_le_bytes w32 list ≡ to_le_bytes w32 behind
    → old ++ (to_le_bytes w32 place ++ to_le_bytes w32 n ++ to_le_bytes w32 list) ≡ old ++ (to_le_bytes w32 at ++ to_le_bytes w32 n ++ to_le_bytes w32 behind)
placed old place list at behind n one two = λ i. old ++ (one i ++ to_le_bytes w32 n ++ two i)

-- a row whose marks begin where its bytes tell
pub marks_at : (old : List ℕ) (row : DocRow) (place at : ℕ) → to_le_bytes w32 place ≡ to_le_bytes w32 at → old ++ row_bytes place row ≡ old ++ row_bytes at row
marks_at old row place at low = ap (λ bytes. old ++ (to_le_bytes w64 row.doc.id ++ to_le_bytes w64 row.born ++ flat_map value_bytes row.doc.values ++ bytes)) low

six : (h a b c d e : List ℕ) → length (h ++ a ++ b ++ c ++ d ++ e) ≡ length h + length a + length b + length c + length d + length e
six h a b c d e =
    let one = length-append h a in
    let two = length-append (h ++ a) b in
    let three = length-append (h ++ a ++ b) c in
    let four = length-append (h ++ a ++ b ++ c) d in
    let five = length-append (h ++ a ++ b ++ c ++ d) e in
    omega (arith, one, two, three, four, five)

header_long : (schema : Schema) (rows : List DocRow) (words : List (List ℕ)) → length (header_bytes schema rows words) ≡ 32
header_long schema rows words = refl

-- the length by that of the parts
pub image_long : (rows : List DocRow) (words : List (List ℕ)) (tables : Tables) (columns marks : List ℕ) (n : ℕ) → AreWordsOf rows words → AreTables rows words tables → columns ≡ rows_bytes 0 rows → marks ≡ marks_bytes rows
    → n ≡ 32 + length columns + length marks + length tables.table.items + length tables.dictionary.items + length tables.postings.items → HasImageLength rows n
image_long rows words tables columns marks n are tabled cs ms long = record {
  words = words;
  are = are;
  is = λ schema.
      let whole = six (header_bytes schema rows words) (rows_bytes 0 rows) (marks_bytes rows) (table_bytes rows 0 0 words) (dictionary_bytes words) (postings_bytes rows words) in
      omega (arith, whole, header_long schema rows words, long, ap length cs, ap length ms, ap length tabled.table, ap length tabled.dictionary, ap length tabled.postings);
}

-- the schema has no part in the length
pub one_length : (schema other : Schema) (rows : List DocRow) (words : List (List ℕ)) → length (image schema rows words) ≡ length (image other rows words)
one_length schema other rows words =
    let one = six (header_bytes schema rows words) (rows_bytes 0 rows) (marks_bytes rows) (table_bytes rows 0 0 words) (dictionary_bytes words) (postings_bytes rows words) in
    let two = six (header_bytes other rows words) (rows_bytes 0 rows) (marks_bytes rows) (table_bytes rows 0 0 words) (dictionary_bytes words) (postings_bytes rows words) in
    omega (arith, one, two, header_long schema rows words, header_long other rows words)
