use Rattle.std.proofs.Common.{◌≡◌, inl, inr, refl, sym, ap, ◌∙◌}
use Rattle.token_grammar.proofs.Rows.{takes_as, fails_at}
use Rattle.query_marks.specs.declared.mark.Sign.TheVariants as signs
use Rattle.query_grammar.specs.declared.class.Class.TheVariants as classes
use Rattle.query_read.proofs.SignSteps.{next_not, takes_sign}
use Rattle.query_read.proofs.joins.leaf.Goals as goal

pub returns-in_ok-copy_key-in-Bare : goal.returns-in_ok-copy_key-in-Bare
returns-in_ok-copy_key-in-Bare c =
    let is : c.sign.result.now ≡ signs.Bare c.in_ok-copy_key-in-Bare.field-0 = c.in-Bare.is ∙ ap signs.Bare (sym (c.in_ok-copy_key-in-Bare.ensures ∙ c.get.ensures)) in
    takes_as (λ u h. inl (c.in_ok-copy_key-in-Bare.field-0, refl, h)) (takes_sign classes.Leaf c.sign.ensures is refl c.skip.ensures)

pub returns-in_ok-copy_keys-in-Phrase : goal.returns-in_ok-copy_keys-in-Phrase
returns-in_ok-copy_keys-in-Phrase c =
    let is : c.sign.result.now ≡ signs.Phrase c.in_ok-copy_keys-in-Phrase.field-0 = c.in-Phrase.is ∙ ap signs.Phrase (sym c.in_ok-copy_keys-in-Phrase.ensures) in
    takes_as (λ u h. inr (c.in_ok-copy_keys-in-Phrase.field-0, refl, h)) (takes_sign classes.Leaf c.sign.ensures is refl c.skip-in-Phrase.ensures)

pub returns-in_default : goal.returns-in_default
returns-in_default c =
    fails_at (next_not classes.Leaf c.sign.ensures (λ h. elim h [ inl (key, is) ↦ c.in_default.not-Bare key is | inr (keys, is) ↦ c.in_default.not-Phrase keys is ])) c.place.ensures
