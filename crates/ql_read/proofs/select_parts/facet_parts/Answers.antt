use Rattle.std.proofs.Common.{refl}
use Rattle.token_grammar.proofs.Rows.{takes_seq, fails_first, fails_next, fails_with, plain_seq, plain_first, plain_next, takes_wider, fails_wider}
use Rattle.ql_read.proofs.select_parts.facet_parts.Goals as goal

pub returns-in_err-column : goal.returns-in_err-column
returns-in_err-column c = fails_with _ _ c.from_residual.result c.from_residual.ensures.1 (plain_first c.in_err-column.ensures)

pub returns-in_err-order : goal.returns-in_err-order
returns-in_err-order c = fails_with _ _ c.from_residual-in_err-order.result c.from_residual-in_err-order.ensures.1 (plain_next c.in_ok-column.ensures (fails_first c.in_err-order.ensures refl))

pub returns-in_err-limit : goal.returns-in_err-limit
returns-in_err-limit c = fails_with _ _ c.from_residual-in_err-limit.result c.from_residual-in_err-limit.ensures.1 (plain_next c.in_ok-column.ensures (fails_next c.in_ok-order.ensures refl (fails_wider refl c.in_err-limit.ensures)))

pub returns : goal.returns
returns c = plain_seq c.in_ok-column.ensures (takes_seq c.in_ok-order.ensures refl (takes_wider refl c.in_ok-limit.ensures))
