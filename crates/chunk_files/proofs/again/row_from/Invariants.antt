use Rattle.chunk_files.specs.steps.Merging.{AreBelow}
use Rattle.chunk_files.proofs.again.row_from.Given as goal

abbrev pub invariant-rows : goal.invariant-rows
invariant-rows l = AreBelow l.id l.row l.layer.rows
