use Rattle.token_grammar.proofs.Rows.{fails_with, plain_seq, plain_first, plain_next}
use Rattle.ql_read.proofs.conditions.among.Goals as goal

pub returns-in_err-keyword : goal.returns-in_err-keyword
returns-in_err-keyword c = fails_with _ _ c.from_residual.result c.from_residual.ensures.1 (plain_first c.in_err-keyword.ensures)

pub returns-in_err-values : goal.returns-in_err-values
returns-in_err-values c = fails_with _ _ c.from_residual-in_err-values.result c.from_residual-in_err-values.ensures.1 (plain_next c.in_ok-keyword.ensures c.in_err-values.ensures)

pub returns : goal.returns
returns c = plain_seq c.in_ok-keyword.ensures c.in_ok-values.ensures
