use Rattle.std.proofs.Common.{All}
use Rattle.directory_vectors.specs.Ready.{IsStepOf, plain}
use Rattle.directory_vectors.proofs.scripts.first_steps.Given as goal

abbrev pub invariant-loop-line : goal.invariant-loop-line
invariant-loop-line l = All (IsStepOf plain) l.steps.items
