use Rattle.std.proofs.Common.{arith}
use Rattle.posting_codec.proofs.Reading.{none_position}
use Rattle.posting_codec.proofs.hits.read_hit.Goals as goal

pub returns-then-hit-eq0 : goal.returns-then-hit-eq0
returns-then-hit-eq0 c =
    let its = c.in_ok-step.ensures in
    none_position c.args.bytes.now c.args.at c.args.last c.in_ok-step.step its.0 c.hit_of-hit.result its.1 c.hit_of-hit.ensures (omega arith)
