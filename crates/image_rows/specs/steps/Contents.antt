-- What the parts of an image say, how they are spelled, and the rows that are made of it.
use Rattle.std.specs.Prelude.{ℕ, ◌+◌, List, [], ◌∷◌, ◌++◌, length}
use Rattle.std.specs.Int.{w16, w32, w64, to_le_bytes}
use Rattle.std.specs.List.{flat_map}
use Rattle.doc_types.specs.declared.documents.DocRow.{DocRow}
use Rattle.doc_types.specs.declared.schema.Schema.{Schema}
use Rattle.doc_types.specs.declared.schema.Value.{Value}
use Rattle.doc_bytes.specs.Payload.{value_bytes}
use Rattle.doc_bytes.specs.Reading.{with_spans}
use Rattle.posting_codec.specs.PostingLists.{posting_list}
use Rattle.chunk_image.specs.ChunkImage.{dictionary_bytes, magic}
use Rattle.chunk_damage.specs.WordLists.{Entry}
use Rattle.chunk_damage.specs.RowMarks.{RowMarks, mark_bytes}
use Rattle.image_rows.specs.steps.Owned.{row_words, word_at}

-- what a row has beside its marks and its words: its id, its commit and its values
pub record RowColumns : Type 0 where
  pub id : ℕ
  pub born : ℕ
  pub values : List Value

-- what all parts say: of each row its columns and its marks, and each word with its list
pub record Contents : Type 0 where
  pub columns : List RowColumns
  pub marks : List RowMarks
  pub words : List (List ℕ)
  pub lists : List (List Entry)

-- a row whose marks begin here, and rows, the marks of the first of which do
abbrev pub row_spelled : ℕ → RowColumns → List ℕ
row_spelled at first = to_le_bytes w64 first.id ++ to_le_bytes w64 first.born ++ flat_map value_bytes first.values ++ to_le_bytes w32 at

abbrev pub rows_spelled : ℕ → List RowColumns → List RowMarks → List ℕ
rows_spelled at [] marks = []
rows_spelled at (first ∷ columns) [] = []
rows_spelled at (first ∷ columns) (m ∷ marks) = row_spelled at first ++ rows_spelled (at + length (mark_bytes m)) columns marks

-- posting lists, and the entries of words, the first of which begins here in the dictionary, and its list there in the postings
abbrev pub lists_bytes : List (List Entry) → List ℕ
lists_bytes lists = flat_map (posting_list 0) lists

abbrev pub entries_bytes : ℕ → ℕ → List (List ℕ) → List (List Entry) → List ℕ
entries_bytes word_at list_at [] lists = []
entries_bytes word_at list_at (word ∷ words) [] = []
entries_bytes word_at list_at (word ∷ words) (list ∷ lists) =
    to_le_bytes w32 word_at ++ to_le_bytes w32 (length list) ++ to_le_bytes w32 list_at ++ entries_bytes (word_at + 1 + length word) (list_at + length (posting_list 0 list)) words lists

-- the image whose parts say this
abbrev pub contents_image : Schema → Contents → List ℕ
contents_image schema c =
    (magic ++ to_le_bytes w32 (length c.columns) ++ to_le_bytes w16 (length schema.fields) ++ to_le_bytes w16 (length schema.attrs) ++ to_le_bytes w32 (length c.words)
    ++ to_le_bytes w32 (length (flat_map mark_bytes c.marks)) ++ to_le_bytes w32 (length (dictionary_bytes c.words)) ++ to_le_bytes w32 (length (lists_bytes c.lists)))
    ++ rows_spelled 0 c.columns c.marks ++ flat_map mark_bytes c.marks ++ entries_bytes 0 0 c.words c.lists ++ dictionary_bytes c.words ++ lists_bytes c.lists

-- the row of this number, where these are all words with their lists
abbrev pub row_made : List (List ℕ) → List (List Entry) → ℕ → RowColumns → RowMarks → DocRow
row_made words lists n first m = record {
  doc = record { id = first.id; fields = with_spans 0 (row_words (word_at words lists n) 0 m.fields) m.spans; values = first.values };
  born = first.born;
}

-- rows, of which the first has this number
abbrev pub rows_made : List (List ℕ) → List (List Entry) → ℕ → List RowColumns → List RowMarks → List DocRow
rows_made words lists n [] marks = []
rows_made words lists n (first ∷ columns) [] = []
rows_made words lists n (first ∷ columns) (m ∷ marks) = row_made words lists n first m ∷ rows_made words lists (n + 1) columns marks
