use Rattle.std.proofs.Common.{refl, [], ◌∙◌}
use Rattle.token_grammar.proofs.Rows.{fails_with, plain_seq, plain_first, plain_next}
use Rattle.token_grammar.proofs.Choices.{optional_if, optional_fails, optional_else}
use Rattle.ql_read.proofs.SelectSteps.{are_given, none_given}
use Rattle.ql_grammar.specs.Selects.{AreKeys}
use Rattle.ql_read.proofs.sorting.order.Goals as goal

pub returns-in_err-two_keywords : goal.returns-in_err-two_keywords
returns-in_err-two_keywords c = fails_with _ _ c.from_residual.result c.from_residual.ensures.1 (optional_fails {cs = []} c.if-is_keyword.ensures refl (plain_first c.in_err-two_keywords.ensures))

pub returns-in_err-keys : goal.returns-in_err-keys
returns-in_err-keys c = fails_with _ _ c.from_residual-in_err-keys.result c.from_residual-in_err-keys.ensures.1 (optional_fails c.if-is_keyword.ensures refl (plain_next c.in_ok-two_keywords.ensures c.in_err-keys.ensures))

pub returns-then-is_keyword : goal.returns-then-is_keyword
returns-then-is_keyword c = optional_if c.if-is_keyword.ensures refl (are_given AreKeys (λ u (a, b, e, p, q). q) (plain_seq c.in_ok-two_keywords.ensures c.in_ok-keys.ensures))

pub returns : goal.returns
returns c = optional_else c.if-is_keyword.ensures refl (none_given AreKeys (c.new-2.ensures ∙ c.new.ensures.items)) refl
