use Rattle.std.proofs.Common.{◌≡◌, [], ◌∷◌}
use Rattle.group_facet.specs.declared.fold.Fold.{Fold}
use Rattle.group_facet.specs.declared.fold.Running.{Running}
use Rattle.group_facet.specs.RunningFolds.{IsRunning, fold_of}
use Rattle.group_facet.proofs.Beside.{zip_more}
use Rattle.group_facet.proofs.part.first_folds.Goals as goal

pub loop-fold-preserved : goal.loop-fold-preserved
loop-fold-preserved g c =
    zip_more (λ (fold : Fold) (each : Running). (fold_of each ≡ fold) × IsRunning each (g.R.FoundRow.as_row c.args.row.now ∷ [])) c.args.folds.now c.loop-fold.fold-index _ c.loop-fold.running.items c.push.new.self.items c.in_ok-first.field-0
    c.loop-fold-test.true c.in_ok-push.ensures.items c.loop-fold.invariant c.in_ok-first.ensures
