use Rattle.token_grammar.proofs.Rows.{fails_with}
use Rattle.ql_read.proofs.commands.start_transaction.Goals as goal

pub returns-in_err-two_keywords : goal.returns-in_err-two_keywords
returns-in_err-two_keywords c = fails_with _ _ c.from_residual.result c.from_residual.ensures.1 c.in_err-two_keywords.ensures

pub returns : goal.returns
returns c = c.in_ok-two_keywords.ensures
