use Rattle.token_grammar.proofs.Rows.{fails_with, plain_seq, plain_first, plain_next}
use Rattle.ql_read.proofs.select_parts.OptionPartPart.read.Goals as goal

pub returns-in_err-name : goal.returns-in_err-name
returns-in_err-name c = fails_with _ _ c.from_residual.result c.from_residual.ensures.1 (plain_first c.in_err-name.ensures)

pub returns-in_err-sign : goal.returns-in_err-sign
returns-in_err-sign c = fails_with _ _ c.from_residual-in_err-sign.result c.from_residual-in_err-sign.ensures.1 (plain_next c.in_ok-name.ensures (plain_first c.in_err-sign.ensures))

pub returns-in_err-value : goal.returns-in_err-value
returns-in_err-value c = fails_with _ _ c.from_residual-in_err-value.result c.from_residual-in_err-value.ensures.1 (plain_next c.in_ok-name.ensures (plain_next c.in_ok-sign.ensures c.in_err-value.ensures))

pub returns : goal.returns
returns c = plain_seq c.in_ok-name.ensures (plain_seq c.in_ok-sign.ensures c.in_ok-value.ensures)
