use Rattle.query_marks.proofs.GroupLimits.{closed_is}
use Rattle.query_marks.proofs.steps.close.Goals as goal

pub returns-in-Some : goal.returns-in-Some
returns-in-Some c = closed_is c.args.state.now c.in-Some.outer c.pop.new.self c.in-Some.ensures
