use Rattle.std.proofs.Common.{arith}
use Rattle.posting_codec.proofs.HitSteps.{few}
use Rattle.posting_codec.proofs.hits.hits_length.Goals as goal

pub overflow_cast-hits : goal.overflow_cast-hits
overflow_cast-hits c = omega (arith, few 0 c.args.hits.now (omega arith) c.requires.ascend)
