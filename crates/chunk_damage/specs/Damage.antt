-- Damage: where bytes are first no image of a chunk of a schema, and how. Parts are looked at one after the other, each once those
-- before it are found good.
use Rattle.std.specs.Prelude.{◌≡◌, ℕ, ◌+◌, ◌*◌, ◌<◌, List}
use Rattle.doc_types.specs.declared.schema.Schema.{Schema}
use Rattle.chunk_damage.specs.declared.fault.BadChunk.{BadChunk}
use Rattle.chunk_damage.specs.declared.fault.ChunkKind.{ChunkKind}
use Rattle.chunk_damage.specs.declared.fault.ChunkKind.TheVariants as kinds
use Rattle.chunk_damage.specs.Header.{HasMagic, HasSizes, dictionary_at, marks_at, postings_at, row_at, rows_in, table_at}
use Rattle.chunk_damage.specs.RowOrder.{AreAscending, IsUnordered}
use Rattle.chunk_damage.specs.RowMarks.{AreBadMarks, AreMarks, RowMarks}
use Rattle.chunk_damage.specs.WordTable.{AreEntered, IsBadEntry}
use Rattle.chunk_damage.specs.WordOrder.{AreOrdered, IsBadWord}
use Rattle.chunk_damage.specs.WordLists.{AreLists, Entry, IsBadList}
use Rattle.chunk_damage.specs.Cover.{AllCovered, IsUncovered}

-- each part is good, by itself
abbrev pub HasRowOrder : Schema → List ℕ → Type 0
HasRowOrder schema bytes = AreAscending schema bytes (rows_in bytes)

abbrev pub HasMarks : Schema → List ℕ → Type 0
HasMarks schema bytes = (marks : List RowMarks) × AreMarks schema bytes marks

abbrev pub HasTable : Schema → List ℕ → Type 0
HasTable schema bytes = (words : List (List ℕ)) × AreEntered schema bytes words

abbrev pub HasWordOrder : Schema → List ℕ → Type 0
HasWordOrder schema bytes = (words : List (List ℕ)) × AreOrdered schema bytes words

abbrev pub HasLists : Schema → List ℕ → Type 0
HasLists schema bytes = (lists : List (List Entry)) × AreLists schema bytes lists

-- the row of this number isn't covered, the first that isn't
pub record IsBadCover (schema : Schema) (bytes : List ℕ) (row : ℕ) : Type 0 where
  pub marks : List RowMarks
  pub lists : List (List Entry)
  pub marks_are : AreMarks schema bytes marks
  pub lists_are : AreLists schema bytes lists
  pub uncovered : IsUncovered lists marks row

-- all parts are good
pub record IsUndamaged (schema : Schema) (bytes : List ℕ) : Type 0 where
  pub magic_is : HasMagic bytes
  pub sizes : HasSizes schema bytes
  pub row_order : HasRowOrder schema bytes
  pub marks : HasMarks schema bytes
  pub table : HasTable schema bytes
  pub word_order : HasWordOrder schema bytes
  pub lists : HasLists schema bytes
  pub cover : AllCovered lists.0 0 marks.0

-- the parts that are looked at before this kind of damage are good
abbrev pub GoodBefore : Schema → List ℕ → ChunkKind → Type 0
GoodBefore schema bytes kinds.Magic = Unit {0}
GoodBefore schema bytes kinds.Sizes = HasMagic bytes
GoodBefore schema bytes kinds.RowOrder = HasMagic bytes × HasSizes schema bytes
GoodBefore schema bytes kinds.Marks = HasMagic bytes × HasSizes schema bytes × HasRowOrder schema bytes
GoodBefore schema bytes kinds.WordTable = HasMagic bytes × HasSizes schema bytes × HasRowOrder schema bytes × HasMarks schema bytes
GoodBefore schema bytes kinds.WordOrder = HasMagic bytes × HasSizes schema bytes × HasRowOrder schema bytes × HasMarks schema bytes × HasTable schema bytes
GoodBefore schema bytes kinds.Postings = HasMagic bytes × HasSizes schema bytes × HasRowOrder schema bytes × HasMarks schema bytes × HasTable schema bytes × HasWordOrder schema bytes
GoodBefore schema bytes kinds.Cover =
    HasMagic bytes × HasSizes schema bytes × HasRowOrder schema bytes × HasMarks schema bytes × HasTable schema bytes × HasWordOrder schema bytes × HasLists schema bytes

-- Damage of this kind is at this place: at the front, at the counts of the header, at a row, at the row's marks, at the word's entry,
-- at the word in the dictionary, at the word's posting list, and at a row again.
abbrev pub IsWrongAt : Schema → List ℕ → ChunkKind → ℕ → Type 0
IsWrongAt schema bytes kinds.Magic place = (HasMagic bytes → ⊥) × (place ≡ 0)
IsWrongAt schema bytes kinds.Sizes place = (HasSizes schema bytes → ⊥) × (place ≡ 8)
IsWrongAt schema bytes kinds.RowOrder place = (row : ℕ) × (row < rows_in bytes) × IsUnordered schema bytes row × (place ≡ row_at schema row)
IsWrongAt schema bytes kinds.Marks place = (at : ℕ) × AreBadMarks schema bytes at × (place ≡ marks_at schema bytes + at)
IsWrongAt schema bytes kinds.WordTable place = (n : ℕ) × IsBadEntry schema bytes n × (place ≡ table_at schema bytes + 12 * n)
IsWrongAt schema bytes kinds.WordOrder place = (at : ℕ) × IsBadWord schema bytes at × (place ≡ dictionary_at schema bytes + at)
IsWrongAt schema bytes kinds.Postings place = (at : ℕ) × IsBadList schema bytes at × (place ≡ postings_at schema bytes + at)
IsWrongAt schema bytes kinds.Cover place = (row : ℕ) × IsBadCover schema bytes row × (place ≡ row_at schema row)

-- the first damage of the bytes
pub record IsBadChunk (schema : Schema) (bytes : List ℕ) (bad : BadChunk) : Type 0 where
  pub good : GoodBefore schema bytes bad.kind
  pub wrong : IsWrongAt schema bytes bad.kind bad.place
