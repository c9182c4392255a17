use Rattle.rank_expr.proofs.OneAnswer.{value_no_fault}
use Rattle.rank_expr.proofs.law.an_expression_has_no_fault.Goals as goal

pub returns : goal.returns
returns c = value_no_fault
