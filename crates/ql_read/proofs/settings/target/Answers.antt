use Rattle.std.proofs.Common.{refl}
use Rattle.token_grammar.proofs.Rows.{fails_with}
use Rattle.token_grammar.proofs.Choices.{takes_if, fails_if, takes_else, fails_else}
use Rattle.ql_read.proofs.settings.target.Goals as goal

pub returns-in_err-variable : goal.returns-in_err-variable
returns-in_err-variable c = fails_with _ _ c.from_residual.result c.from_residual.ensures.1 (fails_if c.if-is_variable.ensures refl c.in_err-variable.ensures)

pub returns-then-is_variable : goal.returns-then-is_variable
returns-then-is_variable c = takes_if c.if-is_variable.ensures refl c.in_ok-variable.ensures

pub returns-in_err-target_name : goal.returns-in_err-target_name
returns-in_err-target_name c = fails_with _ _ c.from_residual-in_err-target_name.result c.from_residual-in_err-target_name.ensures.1 (fails_else c.if-is_variable.ensures refl c.in_err-target_name.ensures)

pub returns : goal.returns
returns c = takes_else c.if-is_variable.ensures refl c.in_ok-target_name.ensures
