use Rattle.doc_vectors.specs.steps.Columns.{AreListed}
use Rattle.doc_vectors.proofs.documents.rows_of.Given as goal

abbrev pub invariant-loop-line : goal.invariant-loop-line
invariant-loop-line l = AreListed l.count l.attrs l.rows.items
