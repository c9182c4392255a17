use Rattle.rank_expr.proofs.OneAnswer.{one_fault}
use Rattle.rank_expr.proofs.law.a_text_has_one_first_fault.Goals as goal

pub returns : goal.returns
returns c = one_fault
