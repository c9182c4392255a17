use Rattle.std.proofs.Common.{refl, [], ◌∷◌}
use Rattle.ql_lex.specs.declared.token.Sign.TheVariants as signs
use Rattle.ql_grammar.specs.Classes.{the_sign}
use Rattle.ql_grammar.specs.Selects.{IsOptionValue}
use Rattle.ql_grammar.specs.steps.Grammar.{argument, field_weight}
use Rattle.token_grammar.specs.Language.{◌⨾◌, ◌∣◌, listed}
use Rattle.token_grammar.proofs.Rows.{fails_with, fails_wider, takes_wider}
use Rattle.token_grammar.proofs.Choices.{reads_if, takes_if, fails_if, takes_else, fails_else}
use Rattle.ql_grammar.specs.Terminals.{name, number, text, enclosed, comma}
use Rattle.ql_read.proofs.select_parts.option_value.Goals as goal

pub returns-then-is_name : goal.returns-then-is_name
returns-then-is_name c = reads_if (name ⨾ argument) (number ∣ text ∣ enclosed (listed comma field_weight)) (the_sign signs.OpenParen ∷ []) (the_sign signs.OpenParen ∷ []) IsOptionValue c.name_or_call.new.input c.name_or_call.result c.if-is_name.ensures refl c.name_or_call.ensures

pub returns-in_err-number : goal.returns-in_err-number
returns-in_err-number c = fails_with _ _ c.from_residual.result c.from_residual.ensures.1 (fails_else c.if-is_name.ensures refl (fails_if c.if-is_number.ensures refl (fails_wider refl c.in_err-number.ensures)))

pub returns-then-is_number : goal.returns-then-is_number
returns-then-is_number c = takes_else c.if-is_name.ensures refl (takes_if c.if-is_number.ensures refl (takes_wider refl c.in_ok-number.ensures))

pub returns-in_err-text : goal.returns-in_err-text
returns-in_err-text c = fails_with _ _ c.from_residual-in_err-text.result c.from_residual-in_err-text.ensures.1 (fails_else c.if-is_name.ensures refl (fails_else c.if-is_number.ensures refl (fails_if c.if-is_text.ensures refl (fails_wider refl c.in_err-text.ensures))))

pub returns-then-is_text : goal.returns-then-is_text
returns-then-is_text c = takes_else c.if-is_name.ensures refl (takes_else c.if-is_number.ensures refl (takes_if c.if-is_text.ensures refl (takes_wider refl c.in_ok-text.ensures)))

pub returns-in_err-enclosed : goal.returns-in_err-enclosed
returns-in_err-enclosed c = fails_with _ _ c.from_residual-in_err-enclosed.result c.from_residual-in_err-enclosed.ensures.1 (fails_else c.if-is_name.ensures refl (fails_else c.if-is_number.ensures refl (fails_else c.if-is_text.ensures refl (fails_wider refl c.in_err-enclosed.ensures))))

pub returns : goal.returns
returns c = takes_else c.if-is_name.ensures refl (takes_else c.if-is_number.ensures refl (takes_else c.if-is_text.ensures refl (takes_wider refl c.in_ok-enclosed.ensures)))
