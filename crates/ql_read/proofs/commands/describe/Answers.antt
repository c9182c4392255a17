use Rattle.token_grammar.proofs.Rows.{plain_seq, plain_first, plain_next, fails_with}
use Rattle.ql_read.proofs.commands.describe.Goals as goal

pub returns-in_err-keyword : goal.returns-in_err-keyword
returns-in_err-keyword c = fails_with _ _ c.from_residual.result c.from_residual.ensures.1 (plain_first c.in_err-keyword.ensures)

pub returns-in_err-name : goal.returns-in_err-name
returns-in_err-name c = fails_with _ _ c.from_residual-in_err-name.result c.from_residual-in_err-name.ensures.1 (plain_next c.in_ok-keyword.ensures c.in_err-name.ensures)

pub returns : goal.returns
returns c = plain_seq c.in_ok-keyword.ensures c.in_ok-name.ensures
