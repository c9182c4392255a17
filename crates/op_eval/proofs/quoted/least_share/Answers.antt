use Rattle.std.proofs.Common.{arith, ◌*◌}
use Rattle.op_eval.proofs.Numbering.{tenth, ten_times}
use Rattle.op_eval.proofs.quoted.least_share.Goals as goal

pub loop-preserved : goal.loop-preserved
loop-preserved c = λ m l.
    let less = c.loop.invariant (m * 10) (tenth m c.loop.least c.div_ceil-least.result c.div_ceil-least.ensures l) in
    omega (arith, less, ten_times m c.loop.counter)
