use Rattle.std.proofs.Common.{refl}
use Rattle.token_grammar.proofs.Rows.{plain_seq, plain_first, plain_next, fails_with, from_there, fails_there}
use Rattle.token_grammar.proofs.Choices.{takes_if, fails_if, takes_else, fails_else}
use Rattle.ql_read.proofs.settings.set_rest.Goals as goal

pub returns-in_err-sign : goal.returns-in_err-sign
returns-in_err-sign c = fails_with _ _ c.from_residual.result c.from_residual.ensures.1 (fails_if c.if-takes_keyword.ensures.1 refl (plain_next c.if-takes_keyword.ensures.0 (plain_first c.in_err-sign.ensures)))

pub returns-in_err-number : goal.returns-in_err-number
returns-in_err-number c = fails_with _ _ c.from_residual-in_err-number.result c.from_residual-in_err-number.ensures.1 (fails_if c.if-takes_keyword.ensures.1 refl (plain_next c.if-takes_keyword.ensures.0 (plain_next c.in_ok-sign.ensures c.in_err-number.ensures)))

pub returns-then-takes_keyword : goal.returns-then-takes_keyword
returns-then-takes_keyword c = takes_if c.if-takes_keyword.ensures.1 refl (plain_seq c.if-takes_keyword.ensures.0 (plain_seq c.in_ok-sign.ensures c.in_ok-number.ensures))

pub returns-in_err-plain : goal.returns-in_err-plain
returns-in_err-plain c = fails_with _ _ c.from_residual-in_err-plain.result c.from_residual-in_err-plain.ensures.1 (fails_else c.if-takes_keyword.ensures.1 refl (fails_there c.if-takes_keyword.ensures.0 (fails_if c.if-takes_keyword-2.ensures.1 refl (plain_next c.if-takes_keyword-2.ensures.0 c.in_err-plain.ensures))))

pub returns-then-takes_keyword-2 : goal.returns-then-takes_keyword-2
returns-then-takes_keyword-2 c = takes_else c.if-takes_keyword.ensures.1 refl (from_there c.if-takes_keyword.ensures.0 (takes_if c.if-takes_keyword-2.ensures.1 refl (plain_seq c.if-takes_keyword-2.ensures.0 c.in_ok-plain.ensures)))

pub returns-in_err-other : goal.returns-in_err-other
returns-in_err-other c = fails_with _ _ c.from_residual-in_err-other.result c.from_residual-in_err-other.ensures.1 (fails_else c.if-takes_keyword.ensures.1 refl (fails_there c.if-takes_keyword.ensures.0 (fails_else c.if-takes_keyword-2.ensures.1 refl (fails_there c.if-takes_keyword-2.ensures.0 c.in_err-other.ensures))))

pub returns : goal.returns
returns c = takes_else c.if-takes_keyword.ensures.1 refl (from_there c.if-takes_keyword.ensures.0 (takes_else c.if-takes_keyword-2.ensures.1 refl (from_there c.if-takes_keyword-2.ensures.0 c.in_ok-other.ensures)))
