use Rattle.ql_read.proofs.StatementValues.{show_is}
use Rattle.token_grammar.proofs.Rows.{plain_seq, plain_first, plain_next, fails_with, takes_as}
use Rattle.ql_read.proofs.commands.show.Goals as goal

pub returns-in_err-keyword : goal.returns-in_err-keyword
returns-in_err-keyword c = fails_with _ _ c.from_residual.result c.from_residual.ensures.1 (plain_first c.in_err-keyword.ensures)

pub returns-in_err-rest : goal.returns-in_err-rest
returns-in_err-rest c = fails_with _ _ c.from_residual-in_err-rest.result c.from_residual-in_err-rest.ensures.1 (plain_next c.in_ok-keyword.ensures c.in_err-rest.ensures)

pub returns : goal.returns
returns c = takes_as (show_is c.in_ok-rest.rest) (plain_seq c.in_ok-keyword.ensures c.in_ok-rest.ensures)
