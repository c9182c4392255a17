use Rattle.token_grammar.proofs.Rows.{fails_with, plain_seq, plain_first, plain_next}
use Rattle.ql_read.proofs.select_parts.FieldWeightPart.read.Goals as goal

pub returns-in_err-field : goal.returns-in_err-field
returns-in_err-field c = fails_with _ _ c.from_residual.result c.from_residual.ensures.1 (plain_first c.in_err-field.ensures)

pub returns-in_err-sign : goal.returns-in_err-sign
returns-in_err-sign c = fails_with _ _ c.from_residual-in_err-sign.result c.from_residual-in_err-sign.ensures.1 (plain_next c.in_ok-field.ensures (plain_first c.in_err-sign.ensures))

pub returns-in_err-weight : goal.returns-in_err-weight
returns-in_err-weight c = fails_with _ _ c.from_residual-in_err-weight.result c.from_residual-in_err-weight.ensures.1 (plain_next c.in_ok-field.ensures (plain_next c.in_ok-sign.ensures c.in_err-weight.ensures))

pub returns : goal.returns
returns c = plain_seq c.in_ok-field.ensures (plain_seq c.in_ok-sign.ensures c.in_ok-weight.ensures)
