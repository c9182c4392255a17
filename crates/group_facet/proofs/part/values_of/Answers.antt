use Rattle.std.proofs.Common.{◌≡◌, ℤ, List, rules, subst, sym, to_z, of_z}
use mir.Syntax.{w128}
use Rattle.row_select.specs.declared.row.Row.{Row}
use Rattle.group_facet.specs.Folds.{IsFolded}
use Rattle.group_facet.specs.declared.fold.Running.{Running}
use Rattle.group_facet.specs.RunningFolds.{IsRunning, fold_of}
use Rattle.group_facet.proofs.Beside.{zip_more, zip_whole}
use Rattle.group_facet.proofs.Folding.{folded_all}
use Rattle.group_facet.proofs.part.values_of.Goals as goal

abbrev Values : Running → ℤ → Type 0
Values running value = (rows : List Row) → IsRunning running rows → IsFolded rows (fold_of running) value

pub loop-fold-preserved : goal.loop-fold-preserved
loop-fold-preserved c =
    let held : ℤ = to_z w128 (of_z w128 c.value.result) in
    let back : held ≡ c.value.result = search rules in
    zip_more Values c.args.folds.now c.loop-fold.fold-index c.fold-item.result c.loop-fold.values.items c.push.new.self.items held
    c.loop-fold-test.true c.in_ok-push.ensures.items c.loop-fold.invariant (subst (λ (running : Running). Values running held) c.fold-item.is (subst (Values c.fold-item.result) (sym back) c.value.ensures))

pub returns : goal.returns
returns c = λ which rows are.
    folded_all which rows c.args.folds.now c.loop-fold.values.items are (zip_whole Values c.args.folds.now c.loop-fold.fold-index c.loop-fold.values.items c.loop-fold-test.false c.loop-fold.invariant)
