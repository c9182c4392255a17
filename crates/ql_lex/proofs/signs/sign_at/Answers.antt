use Rattle.std.proofs.Common.{◌≡◌, ◌+◌, true, false, get_or, sym, ◌∙◌, ap}
use Rattle.std.specs.Prelude.{is_some}
use Rattle.ql_lex.specs.Shapes.{sign_of_two}
use Rattle.ql_lex.proofs.SignTokens.{two_token, one_token, other_bad}
use Rattle.ql_lex.proofs.signs.sign_at.Goals as goal

pub returns-then-is_some : goal.returns-then-is_some
returns-then-is_some c =
    let two : is_some (sign_of_two (get_or c.args.text.now c.args.at 0) (get_or c.args.text.now (c.args.at + 1) 0)) ≡ true = ap (λ b. is_some (sign_of_two (get_or c.args.text.now c.args.at 0) b)) (sym c.byte_at.ensures) ∙ ap is_some (sym c.sign_of_two.ensures) ∙ sym c.is_some.ensures ∙ c.if-is_some.true in
    two_token c.args.text.now c.args.at c.requires.within two

pub returns-then-is_some-2 : goal.returns-then-is_some-2
returns-then-is_some-2 c =
    let two : is_some (sign_of_two (get_or c.args.text.now c.args.at 0) (get_or c.args.text.now (c.args.at + 1) 0)) ≡ false = ap (λ b. is_some (sign_of_two (get_or c.args.text.now c.args.at 0) b)) (sym c.byte_at.ensures) ∙ ap is_some (sym c.sign_of_two.ensures) ∙ sym c.is_some.ensures ∙ c.if-is_some.false in
    one_token c.args.text.now c.args.at c.requires.within two (ap is_some (sym c.sign_of_one.ensures) ∙ sym c.is_some-else-is_some.ensures ∙ c.if-is_some-2.true)

pub returns-else-is_some-2 : goal.returns-else-is_some-2
returns-else-is_some-2 c =
    let two : is_some (sign_of_two (get_or c.args.text.now c.args.at 0) (get_or c.args.text.now (c.args.at + 1) 0)) ≡ false = ap (λ b. is_some (sign_of_two (get_or c.args.text.now c.args.at 0) b)) (sym c.byte_at.ensures) ∙ ap is_some (sym c.sign_of_two.ensures) ∙ sym c.is_some.ensures ∙ c.if-is_some.false in
    other_bad c.args.text.now c.args.at c.requires.within c.requires.other two (ap is_some (sym c.sign_of_one.ensures) ∙ sym c.is_some-else-is_some.ensures ∙ c.if-is_some-2.false)
