use Rattle.line_workers.proofs.Settling.{stands_as_wanted}
use Rattle.line_workers.proofs.Standing.{stands_at_most_once, stands_once}
use Rattle.line_workers.proofs.laws.each_commit_stands_once.Goals as goal

pub returns-clause-acknowledged : goal.returns-clause-acknowledged
returns-clause-acknowledged c = λ schema base index history events place number event one attempt acknowledged. stands_once schema base index history events one place number event attempt acknowledged

pub returns-clause-any : goal.returns-clause-any
returns-clause-any c = λ schema base index history events place number event one attempt. stands_at_most_once schema base index history events one place number event attempt

pub returns-clause-doubtful : goal.returns-clause-doubtful
returns-clause-doubtful c = λ schema base index history events place number event one settled attempt doubtful. stands_as_wanted schema base index history events one place number event settled attempt doubtful
