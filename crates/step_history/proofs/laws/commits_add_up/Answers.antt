use Rattle.step_history.proofs.Counts.{add_up}
use Rattle.step_history.proofs.laws.commits_add_up.Goals as goal

pub returns : goal.returns
returns c = add_up
