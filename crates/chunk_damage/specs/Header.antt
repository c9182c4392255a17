-- What a header says, and which bytes the parts of an image are.
use Rattle.std.specs.Prelude.{◌≡◌, ℕ, ◌+◌, ◌*◌, ◌≤◌, List, length, take, drop}
use Rattle.std.specs.Int.{w16, w32, w64, from_le_bytes}
use Rattle.doc_types.specs.declared.schema.Schema.{Schema}
use Rattle.chunk_image.specs.ChunkImage.{magic}

-- the numbers of 2, 4 and 8 bytes at a place, the low byte first
abbrev pub two_in : List ℕ → ℕ → ℕ
two_in bytes at = from_le_bytes w16 (take 2 (drop at bytes))

abbrev pub four_in : List ℕ → ℕ → ℕ
four_in bytes at = from_le_bytes w32 (take 4 (drop at bytes))

abbrev pub eight_in : List ℕ → ℕ → ℕ
eight_in bytes at = from_le_bytes w64 (take 8 (drop at bytes))

-- how many rows and words there are
abbrev pub rows_in : List ℕ → ℕ
rows_in bytes = four_in bytes 8

abbrev pub words_in : List ℕ → ℕ
words_in bytes = four_in bytes 16

-- how many bytes a row has: id, commit, values, and where its marks begin
abbrev pub row_size : Schema → ℕ
row_size schema = 20 + 8 * length schema.attrs

-- where a row begins
abbrev pub row_at : Schema → ℕ → ℕ
row_at schema row = 32 + row * row_size schema

-- where marks, word table, dictionary and postings begin, and where these end
abbrev pub marks_at : Schema → List ℕ → ℕ
marks_at schema bytes = row_at schema (rows_in bytes)

abbrev pub table_at : Schema → List ℕ → ℕ
table_at schema bytes = marks_at schema bytes + four_in bytes 20

abbrev pub dictionary_at : Schema → List ℕ → ℕ
dictionary_at schema bytes = table_at schema bytes + 12 * words_in bytes

abbrev pub postings_at : Schema → List ℕ → ℕ
postings_at schema bytes = dictionary_at schema bytes + four_in bytes 24

abbrev pub end_at : Schema → List ℕ → ℕ
end_at schema bytes = postings_at schema bytes + four_in bytes 28

-- their bytes
abbrev pub marks_part : Schema → List ℕ → List ℕ
marks_part schema bytes = take (four_in bytes 20) (drop (marks_at schema bytes) bytes)

abbrev pub table_part : Schema → List ℕ → List ℕ
table_part schema bytes = take (12 * words_in bytes) (drop (table_at schema bytes) bytes)

abbrev pub dictionary_part : Schema → List ℕ → List ℕ
dictionary_part schema bytes = take (four_in bytes 24) (drop (dictionary_at schema bytes) bytes)

abbrev pub postings_part : Schema → List ℕ → List ℕ
postings_part schema bytes = drop (postings_at schema bytes) bytes

-- what the bytes begin with
abbrev pub HasMagic : List ℕ → Type 0
HasMagic bytes = take 8 bytes ≡ magic

-- There is a whole header; its counts are those of the schema, and its lengths sum up to that of the bytes. Without a row there are no
-- marks, and without a word neither dictionary nor postings.
pub record HasSizes (schema : Schema) (bytes : List ℕ) : Type 0 where
  pub long : 32 ≤ length bytes
  pub fields : two_in bytes 12 ≡ length schema.fields
  pub attrs : two_in bytes 14 ≡ length schema.attrs
  pub sum : end_at schema bytes ≡ length bytes
  pub no_rows : rows_in bytes ≡ 0 → four_in bytes 20 ≡ 0
  pub no_words : words_in bytes ≡ 0 → (four_in bytes 24 ≡ 0) × (four_in bytes 28 ≡ 0)
