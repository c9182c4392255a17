use Rattle.step_history.proofs.Counts.{numbers}
use Rattle.step_history.proofs.laws.commits_are_numbered.Goals as goal

pub returns : goal.returns
returns c = numbers
