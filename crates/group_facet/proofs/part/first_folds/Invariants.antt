use Rattle.std.proofs.Common.{[], ◌∷◌, take}
use Rattle.group_facet.specs.RunningFolds.{AreRunning}
use Rattle.group_facet.proofs.part.first_folds.Given as goal

abbrev pub invariant-loop-fold : goal.invariant-loop-fold
invariant-loop-fold g l = AreRunning (take l.fold-index l.folds) (g.R.FoundRow.as_row l.row ∷ []) l.running.items
