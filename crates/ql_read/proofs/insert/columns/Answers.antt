use Rattle.std.proofs.Common.{refl}
use Rattle.token_grammar.proofs.Rows.{fails_with}
use Rattle.token_grammar.proofs.Choices.{optional_if, optional_fails, optional_else}
use Rattle.ql_read.proofs.insert.columns.Goals as goal

pub returns-in_err-names : goal.returns-in_err-names
returns-in_err-names c = fails_with _ _ c.from_residual.result c.from_residual.ensures.1 (optional_fails c.if-is_sign.ensures refl c.in_err-names.ensures)

pub returns-then-is_sign : goal.returns-then-is_sign
returns-then-is_sign c = optional_if c.if-is_sign.ensures refl c.in_ok-names.ensures

pub returns : goal.returns
returns c = optional_else c.if-is_sign.ensures refl refl refl
