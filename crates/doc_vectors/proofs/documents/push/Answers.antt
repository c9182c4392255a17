use Rattle.std.proofs.Common.{◌≡◌, ◌<◌, List, [], ◌∷◌, ◌++◌, All, length, rules, sym, subst}
use Rattle.doc_types.specs.declared.documents.DocRow.{DocRow}
use Rattle.doc_vectors.specs.steps.Columns.{AreListed}
use Rattle.doc_vectors.proofs.Rows.{pushed}
use Rattle.doc_vectors.proofs.documents.push.Goals as goal

pub returns : goal.returns
returns c =
    let below = subst (λ (rows : List DocRow). All (λ (row : DocRow). row.doc.id < c.args.row.doc.id) rows) c.as_slice.ensures.value (c.goes_on.ensures c.if-not-goes_on.false) in
    let has : length c.args.row.doc.values ≡ c.args.attrs = search rules in
    let more : c.push.new.self.items ≡ c.args.rows.now.items ++ c.args.row ∷ [] = search rules in
    subst (AreListed c.args.count c.args.attrs) (sym more) (pushed c.args.count c.args.attrs c.args.rows.now.items c.args.row c.requires.rows c.requires.row has below)
