use Rattle.token_grammar.proofs.Rows.{fails_with}
use Rattle.ql_read.proofs.commands.begin.Goals as goal

pub returns-in_err-keyword : goal.returns-in_err-keyword
returns-in_err-keyword c = fails_with _ _ c.from_residual.result c.from_residual.ensures.1 c.in_err-keyword.ensures

pub returns : goal.returns
returns c = c.in_ok-keyword.ensures
