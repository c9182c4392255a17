use Rattle.op_eval.proofs.NumberedHits.{have_positions}
use Rattle.op_eval.proofs.laws.numbered_keywords_have_positions.Goals as goal

pub returns : goal.returns
returns c = have_positions
