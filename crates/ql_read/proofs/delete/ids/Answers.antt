use Rattle.std.proofs.Common.{refl}
use Rattle.token_grammar.proofs.Rows.{plain_seq, plain_first, plain_next, fails_with, from_there, fails_there}
use Rattle.token_grammar.proofs.Choices.{takes_if, fails_if, takes_else, fails_else}
use Rattle.ql_read.proofs.delete.ids.Goals as goal

pub returns-in_err-number : goal.returns-in_err-number
returns-in_err-number c = fails_with _ _ c.from_residual.result c.from_residual.ensures.1 (fails_if c.if-takes_sign.ensures.1 refl (plain_next c.if-takes_sign.ensures.0 c.in_err-number.ensures))

pub returns-then-takes_sign : goal.returns-then-takes_sign
returns-then-takes_sign c = takes_if c.if-takes_sign.ensures.1 refl (plain_seq c.if-takes_sign.ensures.0 c.in_ok-number.ensures)

pub returns-in_err-keyword : goal.returns-in_err-keyword
returns-in_err-keyword c = fails_with _ _ c.from_residual-in_err-keyword.result c.from_residual-in_err-keyword.ensures.1 (fails_else c.if-takes_sign.ensures.1 refl (fails_there c.if-takes_sign.ensures.0 (plain_first c.in_err-keyword.ensures)))

pub returns-in_err-enclosed : goal.returns-in_err-enclosed
returns-in_err-enclosed c = fails_with _ _ c.from_residual-in_err-enclosed.result c.from_residual-in_err-enclosed.ensures.1 (fails_else c.if-takes_sign.ensures.1 refl (fails_there c.if-takes_sign.ensures.0 (plain_next c.in_ok-keyword.ensures c.in_err-enclosed.ensures)))

pub returns : goal.returns
returns c = takes_else c.if-takes_sign.ensures.1 refl (from_there c.if-takes_sign.ensures.0 (plain_seq c.in_ok-keyword.ensures c.in_ok-enclosed.ensures))
