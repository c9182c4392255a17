-- The chunk over an image of rows keeps these rows.
use Rattle.std.proofs.Common.{◌≡◌, ℕ, ◌≤◌, List, length, sym, subst}
use Rattle.doc_types.specs.declared.documents.DocRow.{DocRow}
use Rattle.doc_types.specs.declared.schema.Schema.{Schema}
use Rattle.doc_types.specs.Documents.{AreRowsOf, AreSmall}
use Rattle.doc_types.specs.Schemas.{IsSchema}
use Rattle.chunk_image.specs.ChunkImage.{IsImageOf}
use Rattle.image_parts.specs.Images.{HaveImage}
use Rattle.image_rows.specs.Images.{IsImage}
use Rattle.image_chunk.specs.Images.{Image}

-- an image that isn't too long may be kept by a chunk
abbrev pub kept : (schema : Schema) (bytes : List ℕ) → IsSchema schema → length bytes ≤ 536870912 → IsImage schema bytes → Image bytes
kept schema bytes limits short is = (
  (is.rows, is.are.words),
  ∣ record {
    schema = schema;
    limits = limits;
    of = is.of;
    small = is.small;
    are = is.are.are;
    few_words = is.are.few_words;
    room = is.are.room;
    zones = is.zones;
    is = is.are.is;
    short = short;
  } ∣₁,
)

-- whatever rows it has, they are those of the image
pub its_rows : (schema : Schema) (bytes : List ℕ) (rows : List DocRow) → IsSchema schema → length bytes ≤ 536870912 → (is : IsImage schema bytes) → ((others : List DocRow) (words : List (List ℕ)) → HaveImage others words bytes → rows ≡ others)
    → AreRowsOf schema rows × AreSmall rows × IsImageOf schema rows bytes
its_rows schema bytes rows limits short is told =
    let image = kept schema bytes limits short is in
    let same : rows ≡ is.rows = told is.rows is.are.words image.1 in
    (subst (AreRowsOf schema) (sym same) is.of, subst AreSmall (sym same) is.small, subst (λ (all : List DocRow). IsImageOf schema all bytes) (sym same) is.are)
