use Rattle.std.proofs.Common.{rules, refl}
use Rattle.ql_read.proofs.Wholes.{whole_kept}
use Rattle.token_grammar.proofs.Rows.{fails_with, from_there, fails_there}
use Rattle.token_grammar.proofs.Choices.{takes_if, fails_if, takes_else, fails_else}
use Rattle.ql_read.proofs.settings.setting.Goals as goal

pub returns-then-takes_keyword : goal.returns-then-takes_keyword
returns-then-takes_keyword c = takes_if c.if-takes_keyword.ensures.1 refl c.if-takes_keyword.ensures.0

pub returns-in_err-text : goal.returns-in_err-text
returns-in_err-text c = fails_with _ _ c.from_residual.result c.from_residual.ensures.1 (fails_else c.if-takes_keyword.ensures.1 refl (fails_there c.if-takes_keyword.ensures.0 (fails_if c.if-is_text.ensures refl c.in_err-text.ensures)))

pub returns-then-is_text : goal.returns-then-is_text
returns-then-is_text c = takes_else c.if-takes_keyword.ensures.1 refl (from_there c.if-takes_keyword.ensures.0 (takes_if c.if-is_text.ensures refl c.in_ok-text.ensures))

pub returns-in_err-name : goal.returns-in_err-name
returns-in_err-name c = fails_with _ _ c.from_residual-in_err-name.result c.from_residual-in_err-name.ensures.1 (fails_else c.if-takes_keyword.ensures.1 refl (fails_there c.if-takes_keyword.ensures.0 (fails_else c.if-is_text.ensures refl (fails_if c.if-is_name.ensures refl c.in_err-name.ensures))))

pub returns-then-is_name : goal.returns-then-is_name
returns-then-is_name c = takes_else c.if-takes_keyword.ensures.1 refl (from_there c.if-takes_keyword.ensures.0 (takes_else c.if-is_text.ensures refl (takes_if c.if-is_name.ensures refl c.in_ok-name.ensures)))

pub returns-in_err-number : goal.returns-in_err-number
returns-in_err-number c = fails_with _ _ c.from_residual-in_err-number.result c.from_residual-in_err-number.ensures.1 (fails_else c.if-takes_keyword.ensures.1 refl (fails_there c.if-takes_keyword.ensures.0 (fails_else c.if-is_text.ensures refl (fails_else c.if-is_name.ensures refl c.in_err-number.ensures))))

pub returns : goal.returns
returns c = takes_else c.if-takes_keyword.ensures.1 refl (from_there c.if-takes_keyword.ensures.0 (takes_else c.if-is_text.ensures refl (takes_else c.if-is_name.ensures refl (whole_kept {z = c.in_ok-number.number} (search rules) c.in_ok-number.ensures))))
