use Rattle.op_eval.proofs.NumberedHits.{can_be_weighed}
use Rattle.op_eval.proofs.laws.hits_can_be_weighed.Goals as goal

pub returns : goal.returns
returns c = can_be_weighed
