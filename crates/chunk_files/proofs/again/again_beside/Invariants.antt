use Rattle.std.proofs.Common.{[], ◌∷◌}
use Rattle.std.specs.List.{enumerate_from}
use Rattle.store_steps.specs.Damage.{is_again}
use Rattle.chunk_files.proofs.First.{NonePass}
use Rattle.chunk_files.proofs.Merging.{AreBefore}
use Rattle.chunk_files.proofs.again.again_beside.Given as goal

abbrev pub invariant-rows : goal.invariant-rows
invariant-rows l = NonePass (is_again (l.other ∷ []) l.layer) l.row (enumerate_from 0 l.layer.rows) × AreBefore l.at l.other.rows l.row l.layer.rows
