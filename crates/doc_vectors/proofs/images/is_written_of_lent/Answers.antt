use Rattle.std.proofs.Common.{subst}
use Rattle.doc_vectors.specs.steps.Columns.{AreListed, one_schema}
use Rattle.doc_vectors.proofs.TheSchema.{one_shape}
use Rattle.doc_vectors.proofs.Rows.{both_of, renumbered, written}
use Rattle.doc_vectors.proofs.images.is_written_of_lent.Goals as goal

pub write_docs-requires : goal.write_docs-requires
write_docs-requires c =
    let are = subst (AreListed 1 0) (both_of c.args.rows.now c.first-item.result c.second-item.result c.in-len2.len_at_least c.in-len2.len_below c.first-item.is c.second-item.is) c.requires in
    (one_schema, written one_schema 1 0 _ one_shape (renumbered 1 0 9 c.first-item.result c.second-item.result are))
