use Rattle.std.proofs.Common.{List, take}
use Rattle.std.specs.List.{AllZip}
use Rattle.row_select.specs.declared.row.Row.{Row}
use Rattle.group_facet.specs.Folds.{IsFolded}
use Rattle.group_facet.specs.declared.fold.Running.{Running}
use Rattle.group_facet.specs.RunningFolds.{IsRunning, fold_of}
use Rattle.group_facet.proofs.part.values_of.Given as goal

abbrev pub invariant-loop-fold : goal.invariant-loop-fold
invariant-loop-fold l = AllZip (λ (running : Running) value. (rows : List Row) → IsRunning running rows → IsFolded rows (fold_of running) value) (take l.fold-index l.folds) l.values.items
