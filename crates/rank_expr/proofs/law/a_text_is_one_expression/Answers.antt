use Rattle.rank_expr.proofs.OneAnswer.{one_value}
use Rattle.rank_expr.proofs.law.a_text_is_one_expression.Goals as goal

pub returns : goal.returns
returns c = one_value
