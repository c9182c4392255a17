-- The image of rows of a schema has no damage.
use Rattle.std.proofs.Common.{ℕ, ◌<◌, ◌^◌, List, All, length, map}
use Rattle.doc_types.specs.declared.documents.DocRow.{DocRow}
use Rattle.doc_types.specs.declared.schema.Schema.{Schema}
use Rattle.doc_types.specs.Documents.{AreRowsOf}
use Rattle.doc_types.specs.Schemas.{IsSchema}
use Rattle.chunk_image.specs.ChunkImage.{IsImageOf}
use Rattle.image_parts.specs.Images.{HasZones}
use Rattle.chunk_damage.specs.declared.fault.BadChunk.{BadChunk}
use Rattle.chunk_damage.specs.Damage.{IsBadChunk, IsUndamaged}
use Rattle.damage_laws.proofs.LaidOut.{laid_out}
use Rattle.damage_laws.proofs.OneDamage.{not_damaged}
use Rattle.damage_laws.proofs.RowOwners.{lists_of, row_marks_of, rows_covered}
use Rattle.damage_laws.proofs.RowsSaid.{rows_good}
use Rattle.damage_laws.proofs.WordsSaid.{words_good}

pub are_undamaged : (schema : Schema) (rows : List DocRow) (bytes : List ℕ) → IsSchema schema → AreRowsOf schema rows → All HasZones rows → IsImageOf schema rows bytes → length bytes < 2 ^ 32 → IsUndamaged schema bytes
are_undamaged schema rows bytes limits are zones is low =
    let laid = laid_out schema rows bytes limits are is low in
    let said = rows_good schema rows is.words bytes limits are is.room zones laid in
    let words = words_good schema rows is.words bytes limits are is.are laid.few_rows laid in
    record {
      magic_is = laid.magic_is;
      sizes = laid.sizes;
      row_order = said.order;
      marks = (map row_marks_of rows, said.marks);
      table = (is.words, words.table);
      word_order = (is.words, words.order);
      lists = (lists_of rows is.words, words.lists);
      cover = rows_covered rows is.words (λ k d h. (are.docs k d h).tokens) is.are;
    }

pub no_damage : (schema : Schema) (rows : List DocRow) (bytes : List ℕ) (bad : BadChunk) → IsSchema schema → AreRowsOf schema rows → All HasZones rows → IsImageOf schema rows bytes → length bytes < 2 ^ 32 → IsBadChunk schema bytes bad → ⊥
no_damage schema rows bytes bad limits are zones is low wrong = not_damaged schema bytes bad (are_undamaged schema rows bytes limits are zones is low) wrong
