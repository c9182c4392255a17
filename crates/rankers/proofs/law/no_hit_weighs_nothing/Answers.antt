use Rattle.rankers.proofs.FieldValues.{weight_none}
use Rattle.rankers.proofs.law.no_hit_weighs_nothing.Goals as goal

pub returns : goal.returns
returns c = weight_none
