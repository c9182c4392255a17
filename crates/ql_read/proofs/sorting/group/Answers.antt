use Rattle.std.proofs.Common.{refl, []}
use Rattle.token_grammar.proofs.Rows.{fails_with, plain_seq, plain_first, plain_next}
use Rattle.token_grammar.proofs.Choices.{optional_if, optional_fails, optional_else}
use Rattle.ql_read.proofs.sorting.group.Goals as goal

pub returns-in_err-two_keywords : goal.returns-in_err-two_keywords
returns-in_err-two_keywords c = fails_with _ _ c.from_residual.result c.from_residual.ensures.1 (optional_fails {cs = []} c.if-is_keyword.ensures refl (plain_first c.in_err-two_keywords.ensures))

pub returns-in_err-name : goal.returns-in_err-name
returns-in_err-name c = fails_with _ _ c.from_residual-in_err-name.result c.from_residual-in_err-name.ensures.1 (optional_fails c.if-is_keyword.ensures refl (plain_next c.in_ok-two_keywords.ensures c.in_err-name.ensures))

pub returns-then-is_keyword : goal.returns-then-is_keyword
returns-then-is_keyword c = optional_if c.if-is_keyword.ensures refl (plain_seq c.in_ok-two_keywords.ensures c.in_ok-name.ensures)

pub returns : goal.returns
returns c = optional_else c.if-is_keyword.ensures refl refl refl
