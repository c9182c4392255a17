use Rattle.std.proofs.Common.{refl, []}
use Rattle.token_grammar.proofs.Rows.{fails_with, plain_seq, plain_first, plain_next}
use Rattle.token_grammar.proofs.Choices.{optional_if, optional_fails, optional_else}
use Rattle.ql_read.proofs.select_parts.argument.Goals as goal

pub returns-in_err-text : goal.returns-in_err-text
returns-in_err-text c = fails_with _ _ c.from_residual.result c.from_residual.ensures.1 (optional_fails {cs = []} c.if-takes_sign.ensures.1 refl (plain_next c.if-takes_sign.ensures.0 (plain_first c.in_err-text.ensures)))

pub returns-in_err-sign : goal.returns-in_err-sign
returns-in_err-sign c = fails_with _ _ c.from_residual-in_err-sign.result c.from_residual-in_err-sign.ensures.1 (optional_fails {cs = []} c.if-takes_sign.ensures.1 refl (plain_next c.if-takes_sign.ensures.0 (plain_next c.in_ok-text.ensures c.in_err-sign.ensures)))

pub returns-then-takes_sign : goal.returns-then-takes_sign
returns-then-takes_sign c = optional_if {cs = []} c.if-takes_sign.ensures.1 refl (plain_seq c.if-takes_sign.ensures.0 (plain_seq c.in_ok-text.ensures c.in_ok-sign.ensures))

pub returns : goal.returns
returns c = optional_else c.if-takes_sign.ensures.1 refl refl c.if-takes_sign.ensures.0
