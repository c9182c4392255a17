-- Bytes that are the image of a chunk.
use Rattle.std.specs.Prelude.{ℕ, List, All}
use Rattle.doc_types.specs.declared.documents.DocRow.{DocRow}
use Rattle.doc_types.specs.declared.schema.Schema.{Schema}
use Rattle.doc_types.specs.Documents.{AreRowsOf, AreSmall}
use Rattle.chunk_image.specs.ChunkImage.{IsImageOf}
use Rattle.image_parts.specs.Images.{HasZones}

-- the bytes are the image of rows of the schema, which a chunk can number
pub record IsImage (schema : Schema) (bytes : List ℕ) : Type 0 where
  pub rows : List DocRow
  pub of : AreRowsOf schema rows
  pub small : AreSmall rows
  pub zones : All HasZones rows
  pub are : IsImageOf schema rows bytes
