use Rattle.std.proofs.Common.{refl, []}
use Rattle.token_grammar.proofs.Rows.{fails_with, plain_seq, plain_first, plain_next}
use Rattle.token_grammar.proofs.Choices.{optional_if, optional_fails, optional_else}
use Rattle.ql_read.proofs.select_parts.facet_order.Goals as goal

pub returns-in_err-two_keywords : goal.returns-in_err-two_keywords
returns-in_err-two_keywords c = fails_with _ _ c.from_residual.result c.from_residual.ensures.1 (optional_fails {cs = []} c.if-is_keyword.ensures refl (plain_first c.in_err-two_keywords.ensures))

pub returns-in_err-group_key : goal.returns-in_err-group_key
returns-in_err-group_key c = fails_with _ _ c.from_residual-in_err-group_key.result c.from_residual-in_err-group_key.ensures.1 (optional_fails c.if-is_keyword.ensures refl (plain_next c.in_ok-two_keywords.ensures c.in_err-group_key.ensures))

pub returns-then-is_keyword : goal.returns-then-is_keyword
returns-then-is_keyword c = optional_if c.if-is_keyword.ensures refl (plain_seq c.in_ok-two_keywords.ensures c.in_ok-group_key.ensures)

pub returns : goal.returns
returns c = optional_else c.if-is_keyword.ensures refl refl refl
