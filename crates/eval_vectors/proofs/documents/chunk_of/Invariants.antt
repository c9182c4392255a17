use Rattle.eval_vectors.specs.steps.Reading.{AreFewRows}
use Rattle.eval_vectors.proofs.documents.chunk_of.Given as goal

abbrev pub invariant-lines : goal.invariant-lines
invariant-lines l = AreFewRows l.index.schema l.rows.items
