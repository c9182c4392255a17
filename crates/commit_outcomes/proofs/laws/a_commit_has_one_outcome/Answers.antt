use Rattle.commit_outcomes.proofs.OneOutcome.{one_outcome}
use Rattle.commit_outcomes.proofs.laws.a_commit_has_one_outcome.Goals as goal

pub returns-clause-outcome : goal.returns-clause-outcome
returns-clause-outcome c ops old other new left a b same one two = (one_outcome ops old other new left a b same one two).0

pub returns-clause-rows : goal.returns-clause-rows
returns-clause-rows c ops old other new left a b same one two = (one_outcome ops old other new left a b same one two).1
