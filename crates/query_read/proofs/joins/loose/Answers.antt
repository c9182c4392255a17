use Rattle.std.proofs.Common.{◌≡◌, refl, sym, ap, ◌∙◌}
use Rattle.token_grammar.proofs.Rows.{takes_as, fails_at}
use Rattle.query_marks.specs.declared.mark.Sign.TheVariants as signs
use Rattle.query_grammar.specs.declared.class.Class.TheVariants as classes
use Rattle.query_read.proofs.SignSteps.{next_not, takes_sign}
use Rattle.query_read.proofs.joins.loose.Goals as goal

pub returns-in_ok-copy_keys-in-Loose : goal.returns-in_ok-copy_keys-in-Loose
returns-in_ok-copy_keys-in-Loose c =
    let is : c.sign.result.now ≡ signs.Loose c.in_ok-copy_keys-in-Loose.field-0 c.in-Loose.how = c.in-Loose.is ∙ ap (λ keys. signs.Loose keys c.in-Loose.how) (sym c.in_ok-copy_keys-in-Loose.ensures) in
    takes_as (λ u h. (c.in_ok-copy_keys-in-Loose.field-0, c.in-Loose.how, refl, h)) (takes_sign classes.Loose c.sign.ensures is refl c.skip.ensures)

pub returns-in_default : goal.returns-in_default
returns-in_default c = fails_at (next_not classes.Loose c.sign.ensures (λ (keys, how, is). c.in_default.not-Loose keys how is)) c.place.ensures
