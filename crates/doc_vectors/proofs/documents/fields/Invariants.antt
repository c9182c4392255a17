use Rattle.doc_vectors.specs.steps.Columns.{AreFields}
use Rattle.doc_vectors.proofs.documents.fields.Given as goal

abbrev pub invariant-loop-number : goal.invariant-loop-number
invariant-loop-number l = AreFields l.number l.fields.items
