-- Whose image some bytes are, and where the parts of an image begin.
use Rattle.std.specs.Prelude.{◌≡◌, ◌+◌, ◌*◌, ◌<◌, ◌≤◌, ◌^◌, ℕ, List, All, length}
use Rattle.doc_types.specs.declared.documents.DocRow.{DocRow}
use Rattle.doc_types.specs.declared.schema.Schema.{Schema}
use Rattle.doc_types.specs.Documents.{AreRowsOf, AreSmall}
use Rattle.doc_types.specs.Schemas.{IsSchema}
use Rattle.doc_types.specs.Chunks.{AreWordsOf}
use Rattle.chunk_image.specs.ChunkImage.{HasRoom, dictionary_bytes, image, marks_bytes, rows_bytes}
use Rattle.image_parts.specs.declared.parts.Parts.{Parts}

-- the zones of the row's spans have room in 16 bits
pub record HasZones (row : DocRow) : Type 0 where
  pub fit : All (λ tokens. All (λ span. span.zone < 2 ^ 16) tokens.spans) row.doc.fields

-- the bytes are the image of these rows of some schema, which have these words, and not too long
pub record IsWhole (rows : List DocRow) (words : List (List ℕ)) (bytes : List ℕ) : Type 0 where
  pub schema : Schema
  pub limits : IsSchema schema
  pub of : AreRowsOf schema rows
  pub small : AreSmall rows
  pub are : AreWordsOf rows words
  pub few_words : length words < 2 ^ 32
  pub room : All HasRoom rows
  pub zones : All HasZones rows
  pub is : bytes ≡ image schema rows words
  pub short : length bytes ≤ 536870912

-- the same where nobody keeps the schema: an image tells its rows and words, and not their names
abbrev pub HaveImage : List DocRow → List (List ℕ) → List ℕ → Type 0
HaveImage rows words bytes = ∥ IsWhole rows words bytes ∥₁

-- the counts of an image of these rows and words, and where its parts begin
pub record ArePartsOf (rows : List DocRow) (words : List (List ℕ)) (parts : Parts) : Type 0 where
  pub rows_n : parts.rows ≡ length rows
  pub fields_n : All (λ row. length row.doc.fields ≡ parts.fields) rows
  pub words_n : parts.words ≡ length words
  -- the bytes of a row: id, commit, values, and where its marks begin
  pub row_size : All (λ row. 20 + 8 * length row.doc.values ≡ parts.stride) rows
  pub marks_at : parts.marks ≡ 32 + length (rows_bytes 0 rows)
  pub table_at : parts.table ≡ parts.marks + length (marks_bytes rows)
  pub dictionary_at : parts.dictionary ≡ parts.table + 12 * length words
  pub postings_at : parts.postings ≡ parts.dictionary + length (dictionary_bytes words)
