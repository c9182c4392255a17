use Rattle.op_eval.proofs.Debt.{due_all}
use Rattle.op_eval.proofs.laws.all_rows_owe_their_counts.Goals as goal

pub returns : goal.returns
returns c = due_all
