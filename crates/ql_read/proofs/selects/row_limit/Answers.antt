use Rattle.std.proofs.Common.{[], refl}
use Rattle.token_grammar.proofs.Rows.{plain_seq, plain_first, plain_next, fails_with}
use Rattle.token_grammar.proofs.Choices.{optional_if, optional_fails, optional_else}
use Rattle.ql_read.proofs.selects.row_limit.Goals as goal

pub returns-in_err-keyword : goal.returns-in_err-keyword
returns-in_err-keyword c = fails_with _ _ c.from_residual.result c.from_residual.ensures.1 (optional_fails {cs = []} c.if-is_keyword.ensures refl (plain_first c.in_err-keyword.ensures))

pub returns-in_err-number : goal.returns-in_err-number
returns-in_err-number c = fails_with _ _ c.from_residual-in_err-number.result c.from_residual-in_err-number.ensures.1 (optional_fails {cs = []} c.if-is_keyword.ensures refl (plain_next c.in_ok-keyword.ensures c.in_err-number.ensures))

pub returns-then-is_keyword : goal.returns-then-is_keyword
returns-then-is_keyword c = optional_if {cs = []} c.if-is_keyword.ensures refl (plain_seq c.in_ok-keyword.ensures c.in_ok-number.ensures)

pub returns : goal.returns
returns c = optional_else c.if-is_keyword.ensures refl refl refl
