use Rattle.token_grammar.proofs.Rows.{plain_seq, plain_first, plain_next, fails_with}
use Rattle.ql_read.proofs.delete.delete.Goals as goal

pub returns-in_err-two_keywords : goal.returns-in_err-two_keywords
returns-in_err-two_keywords c = fails_with _ _ c.from_residual.result c.from_residual.ensures.1 (plain_first c.in_err-two_keywords.ensures)

pub returns-in_err-index : goal.returns-in_err-index
returns-in_err-index c = fails_with _ _ c.from_residual-in_err-index.result c.from_residual-in_err-index.ensures.1 (plain_next c.in_ok-two_keywords.ensures (plain_first c.in_err-index.ensures))

pub returns-in_err-two_keywords-2 : goal.returns-in_err-two_keywords-2
returns-in_err-two_keywords-2 c = fails_with _ _ c.from_residual-in_err-two_keywords-2.result c.from_residual-in_err-two_keywords-2.ensures.1 (plain_next c.in_ok-two_keywords.ensures (plain_next c.in_ok-index.ensures (plain_first c.in_err-two_keywords-2.ensures)))

pub returns-in_err-ids : goal.returns-in_err-ids
returns-in_err-ids c = fails_with _ _ c.from_residual-in_err-ids.result c.from_residual-in_err-ids.ensures.1 (plain_next c.in_ok-two_keywords.ensures (plain_next c.in_ok-index.ensures (plain_next c.in_ok-two_keywords-2.ensures c.in_err-ids.ensures)))

pub returns : goal.returns
returns c = plain_seq c.in_ok-two_keywords.ensures (plain_seq c.in_ok-index.ensures (plain_seq c.in_ok-two_keywords-2.ensures c.in_ok-ids.ensures))
