-- Images of rows that were put together.
use Rattle.std.specs.Prelude.{◌≡◌, ◌<◌, ◌≤◌, List, All, AllPairs, ℕ, length}
use Rattle.std.specs.List.Sorted.{IsPermutation}
use Rattle.doc_types.specs.declared.documents.DocRow.{DocRow}
use Rattle.doc_types.specs.declared.schema.Schema.{Schema}
use Rattle.doc_types.specs.Chunks.{AreWordsOf}
use Rattle.doc_types.specs.Documents.{IsDocOf}
use Rattle.doc_types.specs.Schemas.{IsSchema}
use Rattle.chunk_image.specs.ChunkImage.{IsImageOf, image}
use Rattle.image_join.specs.declared.joining.JoinedImage.{JoinedImage}
use Rattle.image_join.specs.declared.joining.JoinedImage.TheVariants.{TooLong, Whole}
use Rattle.image_write.specs.declared.image.TheConstants.{MAX_IMAGE}
use Rattle.layer_joins.specs.Joins.{AreSorted}

-- the bytes are the image of these rows by ascending id, for each schema that the rows are of
pub record IsJoinedImage (living : List DocRow) (bytes : List ℕ) : Type 0 where
  pub rows : List DocRow
  pub are : AreSorted living rows
  pub is : (schema : Schema) → IsSchema schema → All (λ row. IsDocOf schema row.doc) living → IsImageOf schema rows bytes

-- the image of these rows is so many bytes long, whatever their schema
pub record HasImageLength (rows : List DocRow) (bytes : ℕ) : Type 0 where
  pub words : List (List ℕ)
  pub are : AreWordsOf rows words
  pub is : (schema : Schema) → bytes ≡ length (image schema rows words)

-- so long is the image of these rows by ascending id
pub record HasJoinedLength (living : List DocRow) (bytes : ℕ) : Type 0 where
  pub rows : List DocRow
  pub moved : IsPermutation living rows
  pub ascend : AllPairs (λ row later. row.doc.id < later.doc.id) rows
  pub long : HasImageLength rows bytes

-- the image of these rows by ascending id, or how long it would be where it is longer than an image may be
abbrev pub IsJoined : List DocRow → JoinedImage → Type 0
IsJoined living (Whole bytes) = IsJoinedImage living bytes.items × (length bytes.items ≤ MAX_IMAGE)
IsJoined living (TooLong bytes) = HasJoinedLength living bytes × (MAX_IMAGE < bytes)
