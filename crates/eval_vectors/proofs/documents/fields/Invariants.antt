use Rattle.std.proofs.Common.{All}
use Rattle.eval_vectors.specs.steps.Reading.{IsShortField}
use Rattle.eval_vectors.proofs.documents.fields.Given as goal

abbrev pub invariant-texts : goal.invariant-texts
invariant-texts l = All IsShortField l.fields.items
