use Rattle.std.proofs.Common.{◌≡◌, ◌∙◌, ◌++◌, [], ◌∷◌, length, rules, subst, sym, arith}
use Rattle.std.proofs.lemmas.List.{take-append-le, take_all}
use Rattle.group_facet.specs.RunningFolds.{AreRunning}
use Rattle.group_facet.proofs.part.Part.add.Goals as goal

pub returns : goal.returns
returns g c = λ rows so.
    let new = c.add_to_folds.new.folds in
    let count = c.args.self.now.folds.len in
    let long : length new ≡ count = search rules in
    let its : AreRunning c.args.group.now.folds (rows ++ g.R.FoundRow.as_row c.args.row.now ∷ []) new = search (rules, so.folds, c.in_ok-add_to_folds.ensures) in
    record {
      best = c.in_ok-keep_first.ensures rows so.best;
      folds = subst (AreRunning c.args.group.now.folds (rows ++ g.R.FoundRow.as_row c.args.row.now ∷ [])) (sym (take-append-le count new _ (omega (arith, long)) ∙ take_all count new (omega (arith, long)))) its;
    }
