-- The image of a chunk: the bytes that a segment is in memory, and a chunk's file on a disk. Numbers of fixed length have the low
-- byte first.
--
--   header        32 bytes: the magic, how many rows, fields, attributes and words there are, and how long marks, dictionary and postings are
--   rows          of each row id, commit, values, and where its marks begin
--   marks         of each row its boundaries and spans
--   word table    of each word where it begins in the dictionary, how many rows have it, and where its posting list begins
--   dictionary    of each word its length and its bytes, ascending
--   postings      of each word the rows that have it, each with the word's places
use Rattle.std.specs.Prelude.{◌≡◌, ℕ, ◌+◌, ◌<◌, ◌^◌, List, [], ◌∷◌, ◌++◌, codes, length, All}
use Rattle.std.specs.Int.{w16, w32, w64, to_le_bytes}
use Rattle.std.specs.List.{flat_map}
use Rattle.doc_types.specs.declared.documents.DocRow.{DocRow}
use Rattle.doc_types.specs.declared.schema.Schema.{Schema}
use Rattle.doc_types.specs.Chunks.{AreWordsOf, rows_with}
use Rattle.doc_bytes.specs.Payload.{value_bytes}
use Rattle.doc_bytes.specs.RoundTrip.{IsNumber}
use Rattle.chunk_image.specs.AlikeRows.{postings}
use Rattle.posting_codec.specs.PostingLists.{posting_list}
use Rattle.chunk_image.specs.Marks.{row_marks}

-- the row's numbers have room in 64 bits
pub record HasRoom (row : DocRow) : Type 0 where
  pub id : row.doc.id < 2 ^ 64
  pub born : row.born < 2 ^ 64
  pub values : All IsNumber row.doc.values

-- a row whose marks begin here
abbrev pub row_bytes : ℕ → DocRow → List ℕ
row_bytes at row = to_le_bytes w64 row.doc.id ++ to_le_bytes w64 row.born ++ flat_map value_bytes row.doc.values ++ to_le_bytes w32 at

-- rows, the marks of the first of which begin here
abbrev pub rows_bytes : ℕ → List DocRow → List ℕ
rows_bytes at [] = []
rows_bytes at (row ∷ rows) = row_bytes at row ++ rows_bytes (at + length (row_marks row)) rows

abbrev pub marks_bytes : List DocRow → List ℕ
marks_bytes rows = flat_map row_marks rows

-- a word in the dictionary: its length, and its bytes
abbrev pub word_bytes : List ℕ → List ℕ
word_bytes word = length word ∷ word

abbrev pub dictionary_bytes : List (List ℕ) → List ℕ
dictionary_bytes words = flat_map word_bytes words

-- the posting list of a word
unfoldable pub word_postings : List DocRow → List ℕ → List ℕ
word_postings rows word = posting_list 0 (postings word 0 rows)

abbrev pub postings_bytes : List DocRow → List (List ℕ) → List ℕ
postings_bytes rows words = flat_map (word_postings rows) words

-- the entries of words, the first of which begins here in the dictionary, and its posting list there in the postings
abbrev pub table_bytes : List DocRow → ℕ → ℕ → List (List ℕ) → List ℕ
table_bytes rows word_at list_at [] = []
table_bytes rows word_at list_at (word ∷ words) =
    to_le_bytes w32 word_at ++ to_le_bytes w32 (length (rows_with word rows)) ++ to_le_bytes w32 list_at
    ++ table_bytes rows (word_at + 1 + length word) (list_at + length (word_postings rows word)) words

-- what an image begins with
abbrev pub magic : List ℕ
magic = codes "SRCHUNK1"

abbrev pub header_bytes : Schema → List DocRow → List (List ℕ) → List ℕ
header_bytes schema rows words =
    magic ++ to_le_bytes w32 (length rows) ++ to_le_bytes w16 (length schema.fields) ++ to_le_bytes w16 (length schema.attrs) ++ to_le_bytes w32 (length words)
    ++ to_le_bytes w32 (length (marks_bytes rows)) ++ to_le_bytes w32 (length (dictionary_bytes words)) ++ to_le_bytes w32 (length (postings_bytes rows words))

-- the image of these rows of a schema, where these are their words
abbrev pub image : Schema → List DocRow → List (List ℕ) → List ℕ
image schema rows words =
    header_bytes schema rows words ++ rows_bytes 0 rows ++ marks_bytes rows ++ table_bytes rows 0 0 words ++ dictionary_bytes words ++ postings_bytes rows words

-- the bytes are the image of these rows of the schema
pub record IsImageOf (schema : Schema) (rows : List DocRow) (bytes : List ℕ) : Type 0 where
  pub words : List (List ℕ)
  pub are : AreWordsOf rows words
  pub few_words : length words < 2 ^ 32
  pub room : All HasRoom rows
  pub is : bytes ≡ image schema rows words
