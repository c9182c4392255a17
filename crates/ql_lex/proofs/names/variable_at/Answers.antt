use Rattle.std.proofs.Common.{sym, ◌∙◌, ap}
use Rattle.std.proofs.lemmas.Bool.{false≢true}
use Rattle.ql_lex.specs.Shapes.{is_letter}
use Rattle.ql_lex.proofs.NameTokens.{IsVariable, variable_is, variable_token, variable_long}
use Rattle.ql_lex.proofs.BadBytes.{at_bad}
use Rattle.ql_lex.proofs.names.variable_at.Goals as goal
use Rattle.ql_lex.proofs.names.variable_at.Goals.{then-byte_at-ne64-via-then-byte_at-ne64, then-byte_at-ne64-via-else-byte_at-ne64+then-not-is_letter}

pub returns-then-byte_at-ne64 : goal.returns-then-byte_at-ne64
returns-then-byte_at-ne64 c =
    at_bad c.args.text.now c.args.at c.requires.within c.requires.at_sign (λ second letter.
    elim c.then-byte_at-ne64.branch [
      | then-byte_at-ne64-via-then-byte_at-ne64 w ↦ w.if-byte_at-ne64.true (c.byte_at.ensures ∙ second)
      | then-byte_at-ne64-via-else-byte_at-ne64+then-not-is_letter w ↦ false≢true (sym w.if-not-is_letter.true ∙ w.is_letter.ensures ∙ ap is_letter w.byte_at-else-byte_at-ne64.ensures ∙ letter)
    ])

pub returns-then-len-le-MAX_NAME_BYTES : goal.returns-then-len-le-MAX_NAME_BYTES
returns-then-len-le-MAX_NAME_BYTES c =
    let is : IsVariable c.args.text.now c.args.at c.variable_len-len.result =
    variable_is c.args.text.now c.args.at c.variable_len-len.result c.requires.at_sign (sym c.byte_at.ensures ∙ c.if-byte_at-ne64.false)
    (ap is_letter (sym c.byte_at-else-byte_at-ne64.ensures) ∙ sym c.is_letter.ensures ∙ c.if-not-is_letter.false) c.variable_len-len.ensures in
    variable_token c.args.text.now c.args.at c.variable_len-len.result is c.if-len-le-MAX_NAME_BYTES.true

pub returns-else-len-le-MAX_NAME_BYTES : goal.returns-else-len-le-MAX_NAME_BYTES
returns-else-len-le-MAX_NAME_BYTES c =
    let is : IsVariable c.args.text.now c.args.at c.variable_len-len.result =
    variable_is c.args.text.now c.args.at c.variable_len-len.result c.requires.at_sign (sym c.byte_at.ensures ∙ c.if-byte_at-ne64.false)
    (ap is_letter (sym c.byte_at-else-byte_at-ne64.ensures) ∙ sym c.is_letter.ensures ∙ c.if-not-is_letter.false) c.variable_len-len.ensures in
    variable_long c.args.text.now c.args.at c.variable_len-len.result is c.if-len-le-MAX_NAME_BYTES.false
