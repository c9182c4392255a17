use Rattle.std.proofs.Common.{refl}
use Rattle.token_grammar.proofs.Rows.{plain_seq, plain_first, plain_next, fails_with, from_there, fails_there}
use Rattle.token_grammar.proofs.Choices.{takes_if, fails_if, takes_else, fails_else}
use Rattle.ql_read.proofs.commands.flush.Goals as goal

pub returns-in_err-keyword : goal.returns-in_err-keyword
returns-in_err-keyword c = fails_with _ _ c.from_residual.result c.from_residual.ensures.1 (plain_first c.in_err-keyword.ensures)

pub returns-in_err-name : goal.returns-in_err-name
returns-in_err-name c = fails_with _ _ c.from_residual-in_err-name.result c.from_residual-in_err-name.ensures.1 (plain_next c.in_ok-keyword.ensures (fails_if c.if-takes_keyword.ensures.1 refl (plain_next c.if-takes_keyword.ensures.0 c.in_err-name.ensures)))

pub returns-then-takes_keyword : goal.returns-then-takes_keyword
returns-then-takes_keyword c = plain_seq c.in_ok-keyword.ensures (takes_if c.if-takes_keyword.ensures.1 refl (plain_seq c.if-takes_keyword.ensures.0 c.in_ok-name.ensures))

pub returns-in_err-keyword-2 : goal.returns-in_err-keyword-2
returns-in_err-keyword-2 c = fails_with _ _ c.from_residual-in_err-keyword-2.result c.from_residual-in_err-keyword-2.ensures.1 (plain_next c.in_ok-keyword.ensures (fails_else c.if-takes_keyword.ensures.1 refl (fails_there c.if-takes_keyword.ensures.0 (plain_first c.in_err-keyword-2.ensures))))

pub returns-in_err-name-2 : goal.returns-in_err-name-2
returns-in_err-name-2 c = fails_with _ _ c.from_residual-in_err-name-2.result c.from_residual-in_err-name-2.ensures.1 (plain_next c.in_ok-keyword.ensures (fails_else c.if-takes_keyword.ensures.1 refl (fails_there c.if-takes_keyword.ensures.0 (plain_next c.in_ok-keyword-2.ensures c.in_err-name-2.ensures))))

pub returns : goal.returns
returns c = plain_seq c.in_ok-keyword.ensures (takes_else c.if-takes_keyword.ensures.1 refl (from_there c.if-takes_keyword.ensures.0 (plain_seq c.in_ok-keyword-2.ensures c.in_ok-name-2.ensures)))
