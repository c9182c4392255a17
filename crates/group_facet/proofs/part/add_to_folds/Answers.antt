use Rattle.std.proofs.Common.{◌≤◌, ◌<◌, length, arith}
use Rattle.group_facet.specs.steps.Folding.{GoesOn}
use Rattle.group_facet.proofs.Beside.{amid_last, amid_more}
use Rattle.group_facet.proofs.Folding.{gone_on}
use Rattle.group_facet.proofs.part.add_to_folds.Goals as goal

pub loop-fold-preserved : goal.loop-fold-preserved
loop-fold-preserved g c =
    let at = c.loop-fold in
    let low : at.fold-index < length at.folds = omega (arith, at.auto.folds, c.loop-fold-test.true) in
    amid_more (GoesOn (g.R.FoundRow.as_row c.args.row.now)) c.args.folds.now at.fold-index at.folds c.fold-item.result c.add.new.self low
    (record { fold = c.in_ok-add.ensures.fold; goes = c.in_ok-add.ensures.running }) at.invariant

pub returns : goal.returns
returns g c = λ which rows are.
    let at = c.loop-fold in
    let past : length c.args.folds.now ≤ at.fold-index = omega (arith, c.loop-fold-test.false) in
    let now_past : length at.folds ≤ at.fold-index = omega (arith, at.auto.folds, c.loop-fold-test.false) in
    gone_on which rows (g.R.FoundRow.as_row c.args.row.now) c.args.folds.now at.folds (amid_last (GoesOn (g.R.FoundRow.as_row c.args.row.now)) c.args.folds.now at.fold-index at.folds past now_past at.invariant) are
