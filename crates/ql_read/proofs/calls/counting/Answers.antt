use Rattle.token_grammar.proofs.Rows.{plain_seq, plain_first, plain_next, fails_with}
use Rattle.ql_read.proofs.calls.counting.Goals as goal

pub returns-in_err-keyword : goal.returns-in_err-keyword
returns-in_err-keyword c = fails_with _ _ c.from_residual.result c.from_residual.ensures.1 (plain_first c.in_err-keyword.ensures)

pub returns-in_err-sign : goal.returns-in_err-sign
returns-in_err-sign c = fails_with _ _ c.from_residual-in_err-sign.result c.from_residual-in_err-sign.ensures.1 (plain_next c.in_ok-keyword.ensures (plain_first c.in_err-sign.ensures))

pub returns-in_err-name : goal.returns-in_err-name
returns-in_err-name c = fails_with _ _ c.from_residual-in_err-name.result c.from_residual-in_err-name.ensures.1 (plain_next c.in_ok-keyword.ensures (plain_next c.in_ok-sign.ensures (plain_first c.in_err-name.ensures)))

pub returns-in_err-sign-2 : goal.returns-in_err-sign-2
returns-in_err-sign-2 c = fails_with _ _ c.from_residual-in_err-sign-2.result c.from_residual-in_err-sign-2.ensures.1 (plain_next c.in_ok-keyword.ensures (plain_next c.in_ok-sign.ensures (plain_next c.in_ok-name.ensures c.in_err-sign-2.ensures)))

pub returns : goal.returns
returns c = plain_seq c.in_ok-keyword.ensures (plain_seq c.in_ok-sign.ensures (plain_seq c.in_ok-name.ensures c.in_ok-sign-2.ensures))
