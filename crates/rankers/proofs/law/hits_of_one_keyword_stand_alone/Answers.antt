use Rattle.rankers.proofs.LoneValues.{one_together}
use Rattle.rankers.proofs.law.hits_of_one_keyword_stand_alone.Goals as goal

pub returns : goal.returns
returns c = λ field query word hits apart one some. one_together field query word hits apart one some
