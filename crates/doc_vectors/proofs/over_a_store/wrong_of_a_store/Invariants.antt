use Rattle.std.proofs.Common.{◌≡◌}
use Rattle.doc_vectors.specs.steps.Plain.{plain}
use Rattle.doc_vectors.proofs.over_a_store.wrong_of_a_store.Given as goal

abbrev pub invariant-loop-line : goal.invariant-loop-line
invariant-loop-line l = l.store.schema ≡ plain
