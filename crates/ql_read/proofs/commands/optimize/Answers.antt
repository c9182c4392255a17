use Rattle.token_grammar.proofs.Rows.{plain_seq, plain_first, plain_next, fails_with}
use Rattle.ql_read.proofs.commands.optimize.Goals as goal

pub returns-in_err-two_keywords : goal.returns-in_err-two_keywords
returns-in_err-two_keywords c = fails_with _ _ c.from_residual.result c.from_residual.ensures.1 (plain_first c.in_err-two_keywords.ensures)

pub returns-in_err-name : goal.returns-in_err-name
returns-in_err-name c = fails_with _ _ c.from_residual-in_err-name.result c.from_residual-in_err-name.ensures.1 (plain_next c.in_ok-two_keywords.ensures c.in_err-name.ensures)

pub returns : goal.returns
returns c = plain_seq c.in_ok-two_keywords.ensures c.in_ok-name.ensures
