use Rattle.step_history.proofs.Steps.{front}
use Rattle.step_history.proofs.laws.a_beginning_is_good.Goals as goal

pub returns : goal.returns
returns c = front
