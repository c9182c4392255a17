use Rattle.std.proofs.Common.{◌<◌, List, All, length, arith, sym, subst}
use Rattle.doc_types.specs.declared.documents.DocRow.{DocRow}
use Rattle.eval_vectors.specs.steps.Reading.{AreFewRows}
use Rattle.eval_vectors.proofs.HeldRows.{pushed}
use Rattle.eval_vectors.proofs.documents.push.Goals as goal

pub returns : goal.returns
returns c =
    let few : length c.args.rows.now.items < 10000 = omega (arith, c.len.ensures, c.if-len-ge10000.false) in
    let below = subst (λ (rows : List DocRow). All (λ (row : DocRow). row.doc.id < c.in_ok-row.row.doc.id) rows) c.as_slice.ensures.value (c.goes_on.ensures c.if-not-goes_on.false) in
    subst (AreFewRows c.args.index.now.schema) (sym c.in_ok-push.ensures.items) (pushed c.args.index.now.schema c.args.rows.now.items c.in_ok-row.row c.requires.rows c.in_ok-row.ensures few below)
