use Rattle.std.proofs.Common.{refl}
use Rattle.token_grammar.proofs.Lookahead.{takes_followed, fails_followed, takes_unfollowed, fails_unfollowed}
use Rattle.token_grammar.proofs.Rows.{plain_seq, plain_first, plain_next, fails_with, takes_wider, fails_wider}
use Rattle.token_grammar.proofs.Choices.{takes_if, fails_if, takes_else, fails_else}
use Rattle.ql_read.proofs.selects.selection.Goals as goal

pub returns-in_err-name : goal.returns-in_err-name
returns-in_err-name c = fails_with _ _ c.from_residual.result c.from_residual.ensures.1 (fails_if c.if-is_variable.ensures refl (plain_first c.in_err-name.ensures))

pub returns-in_err-limit : goal.returns-in_err-limit
returns-in_err-limit c = fails_with _ _ c.from_residual-in_err-limit.result c.from_residual-in_err-limit.ensures.1 (fails_if c.if-is_variable.ensures refl (plain_next c.in_ok-name.ensures (fails_wider refl c.in_err-limit.ensures)))

pub returns-then-is_variable : goal.returns-then-is_variable
returns-then-is_variable c = takes_if c.if-is_variable.ensures refl (plain_seq c.in_ok-name.ensures (takes_wider refl c.in_ok-limit.ensures))

pub returns-in_err-keyword : goal.returns-in_err-keyword
returns-in_err-keyword c = fails_with _ _ c.from_residual-in_err-keyword.result c.from_residual-in_err-keyword.ensures.1 (fails_else c.if-is_variable.ensures refl (fails_followed c.if-is_followed.ensures refl (plain_first c.in_err-keyword.ensures)))

pub returns-in_err-sign : goal.returns-in_err-sign
returns-in_err-sign c = fails_with _ _ c.from_residual-in_err-sign.result c.from_residual-in_err-sign.ensures.1 (fails_else c.if-is_variable.ensures refl (fails_followed c.if-is_followed.ensures refl (plain_next c.in_ok-keyword.ensures (plain_first c.in_err-sign.ensures))))

pub returns-in_err-sign-2 : goal.returns-in_err-sign-2
returns-in_err-sign-2 c = fails_with _ _ c.from_residual-in_err-sign-2.result c.from_residual-in_err-sign-2.ensures.1 (fails_else c.if-is_variable.ensures refl (fails_followed c.if-is_followed.ensures refl (plain_next c.in_ok-keyword.ensures (plain_next c.in_ok-sign.ensures (fails_wider refl c.in_err-sign-2.ensures)))))

pub returns-then-is_followed : goal.returns-then-is_followed
returns-then-is_followed c = takes_else c.if-is_variable.ensures refl (takes_followed c.if-is_followed.ensures refl (plain_seq c.in_ok-keyword.ensures (plain_seq c.in_ok-sign.ensures (takes_wider refl c.in_ok-sign-2.ensures))))

pub returns-in_err-select : goal.returns-in_err-select
returns-in_err-select c = fails_with _ _ c.from_residual-in_err-select.result c.from_residual-in_err-select.ensures.1 (fails_else c.if-is_variable.ensures refl (fails_unfollowed c.if-is_followed.ensures refl c.in_err-select.ensures))

pub returns : goal.returns
returns c = takes_else c.if-is_variable.ensures refl (takes_unfollowed c.if-is_followed.ensures refl c.in_ok-select.ensures)
