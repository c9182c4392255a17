use Rattle.std.proofs.Common.{arith, rules, take}
use Rattle.std.specs.List.{filter}
use Rattle.job_chunks.specs.steps.Making.{stays}
use Rattle.job_chunks.proofs.Staying.{all_stay, next_stays}
use Rattle.job_chunks.proofs.limits.staying_of.Goals as goal

pub loop-layer-preserved : goal.loop-layer-preserved
loop-layer-preserved g c =
    let layers = c.args.layers.now in
    next_stays c.args.job layers c.loop-layer.layer-index c.layer-item.result c.in_ok-staying.staying (omega arith) (search rules) (c.in_ok-staying.ensures (filter (stays c.args.job) (take c.loop-layer.layer-index layers)) c.loop-layer.invariant)

pub returns : goal.returns
returns g c = all_stay c.args.job c.args.layers.now c.loop-layer.layer-index c.loop-layer.staying (omega arith) c.loop-layer.invariant
