use Rattle.std.proofs.Common.{◌≡◌, rules, subst, sym, [], ◌∷◌, ◌++◌}
use Rattle.group_facet.specs.Distinct.{first_seen}
use Rattle.group_facet.specs.Folds.{IsGreatest, IsLeast, column_values}
use Rattle.group_facet.specs.RunningFolds.{IsRunning}
use Rattle.group_facet.proofs.Folding.{greatest_push, least_push, seen_push}
use Rattle.group_facet.proofs.fold.Running.add.Goals as goal

pub returns-in_ok-insert-in-Distinct-clause-running : goal.returns-in_ok-insert-in-Distinct-clause-running
returns-in_ok-insert-in-Distinct-clause-running g c = λ rows so.
    let seen : c.in-Distinct.seen.values.keys ≡ first_seen (column_values c.in-Distinct.seen.column rows) = subst (λ running. IsRunning running rows) c.in-Distinct.is so in
    seen_push c.in-Distinct.seen.column (g.R.FoundRow.as_row c.args.row.now) rows c.in-Distinct.seen.values.keys c.insert.new.self.keys _ c.in_ok-insert-in-Distinct.ensures.keys (search rules) seen

pub returns-in-Least-clause-running : goal.returns-in-Least-clause-running
returns-in-Least-clause-running g c = λ rows so.
    let least : IsLeast (column_values c.in-Least.least.column rows) c.in-Least.least.value = subst (λ running. IsRunning running rows) c.in-Least.is so in
    subst (λ column. IsLeast (column_values column (rows ++ g.R.FoundRow.as_row c.args.row.now ∷ [])) c.lesser.result.value) (sym c.lesser.ensures.column)
    (least_push c.in-Least.least.column (g.R.FoundRow.as_row c.args.row.now) rows c.in-Least.least.value c.lesser.result.value c.lesser.ensures.value least)

pub returns-in-Greatest-clause-running : goal.returns-in-Greatest-clause-running
returns-in-Greatest-clause-running g c = λ rows so.
    let greatest : IsGreatest (column_values c.in-Greatest.greatest.column rows) c.in-Greatest.greatest.value = subst (λ running. IsRunning running rows) c.in-Greatest.is so in
    subst (λ column. IsGreatest (column_values column (rows ++ g.R.FoundRow.as_row c.args.row.now ∷ [])) c.greater.result.value) (sym c.greater.ensures.column)
    (greatest_push c.in-Greatest.greatest.column (g.R.FoundRow.as_row c.args.row.now) rows c.in-Greatest.greatest.value c.greater.result.value c.greater.ensures.value greatest)
