use Rattle.doc_vectors.specs.steps.Columns.{one_schema}
use Rattle.doc_vectors.proofs.TheSchema.{one_shape}
use Rattle.doc_vectors.proofs.Rows.{written}
use Rattle.doc_vectors.proofs.images.is_written.Goals as goal

pub write_counted-requires : goal.write_counted-requires
write_counted-requires c = (one_schema, written one_schema 1 0 c.args.rows.now one_shape c.requires)
