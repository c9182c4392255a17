-- What becomes of rows that are in order.
use Rattle.std.specs.Prelude.{◌<◌, ◌≤◌, List, length}
use Rattle.doc_types.specs.declared.documents.DocRow.{DocRow}
use Rattle.doc_types.specs.declared.schema.Schema.{Schema}
use Rattle.doc_types.specs.Documents.{AreRowsOf}
use Rattle.doc_types.specs.Schemas.{IsSchema}
use Rattle.chunk_image.specs.ChunkImage.{IsImageOf}
use Rattle.image_join.specs.JoinedImages.{HasImageLength}
use Rattle.image_join.specs.declared.joining.JoinedImage.{JoinedImage}
use Rattle.image_join.specs.declared.joining.JoinedImage.TheVariants.{TooLong, Whole}
use Rattle.image_write.specs.declared.image.TheConstants.{MAX_IMAGE}

-- the image of these rows, or how long it would be
abbrev pub IsOrdered : List DocRow → JoinedImage → Type 0
IsOrdered rows (Whole bytes) = ((schema : Schema) → IsSchema schema → AreRowsOf schema rows → IsImageOf schema rows bytes.items) × (length bytes.items ≤ MAX_IMAGE) × (length rows ≤ MAX_IMAGE)
IsOrdered rows (TooLong bytes) = HasImageLength rows bytes × (MAX_IMAGE < bytes)
