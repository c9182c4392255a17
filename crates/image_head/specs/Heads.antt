-- What the header is read as: counts and places of an image of the schema, or the damage that stands there.
use Rattle.std.specs.Prelude.{◌≡◌, ℕ, List, Result, Ok, Err}
use Rattle.doc_types.specs.declared.schema.Schema.{Schema}
use Rattle.chunk_damage.specs.declared.fault.BadChunk.{BadChunk}
use Rattle.chunk_damage.specs.Header.{HasMagic, HasSizes, dictionary_at, marks_at, postings_at, rows_in, table_at, words_in}
use Rattle.chunk_damage.specs.Damage.{IsBadChunk}
use Rattle.image_head.specs.declared.header.Sizes.{Sizes}

-- the counts and places that the header says
pub record AreSizes (schema : Schema) (bytes : List ℕ) (sizes : Sizes) : Type 0 where
  pub rows : sizes.rows ≡ rows_in bytes
  pub words : sizes.words ≡ words_in bytes
  pub marks : sizes.marks ≡ marks_at schema bytes
  pub table : sizes.table ≡ table_at schema bytes
  pub dictionary : sizes.dictionary ≡ dictionary_at schema bytes
  pub postings : sizes.postings ≡ postings_at schema bytes

-- what the whole header is found to be
pub record IsHead (schema : Schema) (bytes : List ℕ) (sizes : Sizes) : Type 0 where
  pub begins : HasMagic bytes
  pub sums_up : HasSizes schema bytes
  pub are : AreSizes schema bytes sizes

abbrev pub Heads : Schema → List ℕ → Result Sizes BadChunk → Type 0
Heads schema bytes (Ok sizes) = IsHead schema bytes sizes
Heads schema bytes (Err bad) = IsBadChunk schema bytes bad
