use Rattle.std.proofs.Common.{refl}
use Rattle.token_grammar.proofs.Rows.{fails_with, plain_seq, plain_next}
use Rattle.token_grammar.proofs.Choices.{optional_if, optional_fails, optional_else}
use Rattle.ql_read.proofs.select_parts.second_number.Goals as goal

pub returns-in_err-number : goal.returns-in_err-number
returns-in_err-number c = fails_with _ _ c.from_residual.result c.from_residual.ensures.1 (optional_fails c.if-takes_sign.ensures.1 refl (plain_next c.if-takes_sign.ensures.0 c.in_err-number.ensures))

pub returns-then-takes_sign : goal.returns-then-takes_sign
returns-then-takes_sign c = optional_if c.if-takes_sign.ensures.1 refl (plain_seq c.if-takes_sign.ensures.0 c.in_ok-number.ensures)

pub returns : goal.returns
returns c = optional_else c.if-takes_sign.ensures.1 refl refl c.if-takes_sign.ensures.0
