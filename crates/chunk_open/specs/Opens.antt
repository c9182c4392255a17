-- What opening the bytes of a file answers: a chunk of the rows whose image they are, or their first damage.
use Rattle.std.specs.Prelude.{◌≡◌, ℕ, List, Result, Ok, Err}
use Rattle.srch_base.specs.declared.faults.Or.{Or}
use Rattle.srch_base.specs.declared.faults.Or.TheVariants.{NoMemory, Fault}
use Rattle.doc_types.specs.declared.schema.Schema.{Schema}
use Rattle.doc_types.specs.Documents.{AreRowsOf, AreSmall}
use Rattle.chunk_image.specs.ChunkImage.{IsImageOf}
use Rattle.chunk_damage.specs.declared.fault.BadChunk.{BadChunk}
use Rattle.chunk_damage.specs.Damage.{IsBadChunk}
use Rattle.image_rows.specs.Images.{IsImage}
use Rattle.image_chunk.specs.declared.image_chunk.ImageChunk.{ImageChunk}

-- what looking at the bytes answers; want of memory alone is a free answer
abbrev pub Finds : Schema → List ℕ → Result (Unit {0}) (Or BadChunk) → Type 0
Finds schema bytes (Ok u) = IsImage schema bytes
Finds schema bytes (Err NoMemory) = Unit {0}
Finds schema bytes (Err (Fault bad)) = IsBadChunk schema bytes bad

-- the chunk keeps these bytes, and they are the image of its rows, which are rows of the schema that a chunk can number
pub record IsOpened (schema : Schema) (bytes : List ℕ) (chunk : ImageChunk) : Type 0 where
  pub kept : chunk.bytes ≡ bytes
  pub of : AreRowsOf schema chunk.image.0.0
  pub small : AreSmall chunk.image.0.0
  pub are : IsImageOf schema chunk.image.0.0 bytes

-- what opening them does
abbrev pub Opens : Schema → List ℕ → Result ImageChunk (Or BadChunk) → Type 0
Opens schema bytes (Ok chunk) = IsOpened schema bytes chunk
Opens schema bytes (Err NoMemory) = Unit {0}
Opens schema bytes (Err (Fault bad)) = IsBadChunk schema bytes bad
