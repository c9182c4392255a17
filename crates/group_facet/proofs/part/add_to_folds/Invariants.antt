use Rattle.group_facet.proofs.Beside.{IsAmid}
use Rattle.group_facet.specs.steps.Folding.{GoesOn}
use Rattle.group_facet.proofs.part.add_to_folds.Given as goal

abbrev pub invariant-loop-fold : goal.invariant-loop-fold
invariant-loop-fold g l = IsAmid (GoesOn (g.R.FoundRow.as_row l.row)) l.fn.folds l.fold-index l.folds
