use Rattle.std.proofs.Common.{◌≤◌, arith}
use Rattle.image_join.specs.declared.nexts.TheConstants.{NO_HEAD}
use Rattle.image_join.specs.steps.Merging.{next_at}
use Rattle.image_join.proofs.Least.{heads_more}
use Rattle.image_join.proofs.nexts.least_of.Goals as goal

pub loop-number-preserved : goal.loop-number-preserved
loop-number-preserved c =
    let own : (next_at c.args.nexts.now c.loop-number.number).head ≤ NO_HEAD = omega arith in
    heads_more c.args.nexts.now c.loop-number.number c.loop-number.place c.loop-number.least c.loop-number.invariant c.chosen-place.result c.chosen-least.result c.chosen-place.ensures c.chosen-least.ensures own
