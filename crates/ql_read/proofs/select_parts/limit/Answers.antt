use Rattle.std.proofs.Common.{refl, []}
use Rattle.token_grammar.proofs.Rows.{fails_with, plain_seq, plain_first, plain_next}
use Rattle.token_grammar.proofs.Choices.{optional_if, optional_fails, optional_else}
use Rattle.ql_read.proofs.select_parts.limit.Goals as goal

pub returns-in_err-first : goal.returns-in_err-first
returns-in_err-first c = fails_with _ _ c.from_residual.result c.from_residual.ensures.1 (optional_fails {cs = []} c.if-takes_keyword.ensures.1 refl (plain_next c.if-takes_keyword.ensures.0 (plain_first c.in_err-first.ensures)))

pub returns-in_err-second : goal.returns-in_err-second
returns-in_err-second c = fails_with _ _ c.from_residual-in_err-second.result c.from_residual-in_err-second.ensures.1 (optional_fails c.if-takes_keyword.ensures.1 refl (plain_next c.if-takes_keyword.ensures.0 (plain_next c.in_ok-first.ensures c.in_err-second.ensures)))

pub returns-then-takes_keyword : goal.returns-then-takes_keyword
returns-then-takes_keyword c = optional_if c.if-takes_keyword.ensures.1 refl (plain_seq c.if-takes_keyword.ensures.0 (plain_seq c.in_ok-first.ensures c.in_ok-second.ensures))

pub returns : goal.returns
returns c = optional_else c.if-takes_keyword.ensures.1 refl refl c.if-takes_keyword.ensures.0
