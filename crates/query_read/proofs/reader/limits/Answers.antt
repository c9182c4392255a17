use Rattle.std.proofs.Common.{◌≡◌, true, inl, inr, refl, sym, ap, ◌∙◌}
use Rattle.query_marks.specs.declared.mark.Sign.TheVariants as signs
use Rattle.query_grammar.specs.declared.class.Class.TheVariants as classes
use Rattle.query_read.proofs.SignSteps.{next_is, next_not, takes_sign}
use Rattle.query_read.proofs.OrderSteps.{limits_more, limits_done}
use Rattle.query_read.proofs.reader.limits.Goals as goal

pub limits-preserved-in-Limits : goal.limits-preserved-in-Limits
limits-preserved-in-Limits c =
    limits_more c.limits.invariant (next_is classes.Limit true c.sign.ensures c.in-Limits.is refl) (takes_sign classes.Limit c.sign.ensures c.in-Limits.is refl c.skip.ensures)

pub limits-preserved : goal.limits-preserved
limits-preserved c =
    let is : c.sign.result.now ≡ signs.Spans c.in_ok-copy_numbers-in-Spans.field-0 = c.in-Spans.is ∙ ap signs.Spans (sym c.in_ok-copy_numbers-in-Spans.ensures) in
    limits_more c.limits.invariant (next_is classes.Limit true c.sign.ensures is refl) (takes_sign classes.Limit c.sign.ensures is refl c.skip-in-Spans.ensures)

pub returns-in_default : goal.returns-in_default
returns-in_default c =
    limits_done c.limits.invariant (next_not classes.Limit c.sign.ensures (λ h. elim h [ inl is ↦ c.in_default.not-Limits is | inr (zones, is) ↦ c.in_default.not-Spans zones is ]))
