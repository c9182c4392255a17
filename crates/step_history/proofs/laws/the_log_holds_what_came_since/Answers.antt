use Rattle.step_history.proofs.LogEnds.{commit, reshape, payload}
use Rattle.step_history.proofs.laws.the_log_holds_what_came_since.Goals as goal

pub returns-clause-commit : goal.returns-clause-commit
returns-clause-commit c = commit

pub returns-clause-reshape : goal.returns-clause-reshape
returns-clause-reshape c = reshape

pub returns-clause-payload : goal.returns-clause-payload
returns-clause-payload c = payload
