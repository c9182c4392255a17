use Rattle.std.proofs.Common.{List, sym, subst}
use Rattle.std.specs.Prelude.{IfOk}
use Rattle.doc_types.specs.declared.documents.DocRow.{DocRow}
use Rattle.doc_types.specs.declared.schema.Schema.{Schema}
use Rattle.chunk_image.specs.ChunkImage.{IsImageOf}
use Rattle.image_write.specs.Written.{IsWritten}
use Rattle.image_write.proofs.Lent.{rows_are}
use Rattle.image_write.proofs.image.write_counted.Goals as goal

pub write_lent-requires : goal.write_lent-requires
write_lent-requires c = (c.requires.0, subst (λ (rows : List DocRow). IsWritten c.requires.0 rows c.args.fields c.args.attrs) (sym (rows_are c.args.rows.now)) c.requires.1)

pub returns-clause-is : goal.returns-clause-is
returns-clause-is c =
    subst (λ (rows : List DocRow). IfOk c.write_lent.result (λ image. (schema : Schema) → IsWritten schema rows c.args.fields c.args.attrs → IsImageOf schema rows image.items)) (rows_are c.args.rows.now) c.write_lent.ensures.is
