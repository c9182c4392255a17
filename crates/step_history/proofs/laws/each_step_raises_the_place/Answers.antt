use Rattle.step_history.proofs.Counts.{places}
use Rattle.step_history.proofs.laws.each_step_raises_the_place.Goals as goal

pub returns : goal.returns
returns c = places
