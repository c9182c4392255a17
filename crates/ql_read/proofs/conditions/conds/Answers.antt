use Rattle.std.proofs.Common.{refl, ◌∙◌}
use Rattle.token_grammar.proofs.Rows.{fails_with, plain_seq, plain_next}
use Rattle.token_grammar.proofs.Choices.{optional_if, optional_fails, optional_else}
use Rattle.ql_read.proofs.SelectSteps.{are_given, none_given}
use Rattle.ql_grammar.specs.Selects.{AreConds}
use Rattle.ql_read.proofs.conditions.conds.Goals as goal

pub returns-in_err-conds : goal.returns-in_err-conds
returns-in_err-conds c = fails_with _ _ c.from_residual.result c.from_residual.ensures.1 (optional_fails c.if-takes_keyword.ensures.1 refl (plain_next c.if-takes_keyword.ensures.0 c.in_err-conds.ensures))

pub returns-then-takes_keyword : goal.returns-then-takes_keyword
returns-then-takes_keyword c = optional_if c.if-takes_keyword.ensures.1 refl (are_given AreConds (λ u (a, b, e, p, q). q) (plain_seq c.if-takes_keyword.ensures.0 c.in_ok-conds.ensures))

pub returns : goal.returns
returns c = optional_else c.if-takes_keyword.ensures.1 refl (none_given AreConds (c.new-2.ensures ∙ c.new.ensures.items)) c.if-takes_keyword.ensures.0
