use Rattle.step_history.proofs.Counts.{rows}
use Rattle.step_history.proofs.laws.the_rows_are_those_of_the_commits.Goals as goal

pub returns : goal.returns
returns c = rows
