use Rattle.step_history.proofs.Steps.{grows}
use Rattle.step_history.proofs.laws.a_step_that_follows_keeps_it_good.Goals as goal

pub returns : goal.returns
returns c = grows
