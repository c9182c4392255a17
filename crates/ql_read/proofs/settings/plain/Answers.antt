use Rattle.std.proofs.Common.{refl}
use Rattle.token_grammar.proofs.Rows.{fails_with}
use Rattle.token_grammar.proofs.Choices.{takes_if, fails_if, takes_else, fails_else}
use Rattle.ql_read.proofs.settings.plain.Goals as goal

pub returns-in_err-text : goal.returns-in_err-text
returns-in_err-text c = fails_with _ _ c.from_residual.result c.from_residual.ensures.1 (fails_if c.if-is_text.ensures refl c.in_err-text.ensures)

pub returns-then-is_text : goal.returns-then-is_text
returns-then-is_text c = takes_if c.if-is_text.ensures refl c.in_ok-text.ensures

pub returns-in_err-name : goal.returns-in_err-name
returns-in_err-name c = fails_with _ _ c.from_residual-in_err-name.result c.from_residual-in_err-name.ensures.1 (fails_else c.if-is_text.ensures refl c.in_err-name.ensures)

pub returns : goal.returns
returns c = takes_else c.if-is_text.ensures refl c.in_ok-name.ensures
