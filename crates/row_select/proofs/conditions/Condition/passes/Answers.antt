use Rattle.std.proofs.Common.{◌≡◌, ◌∙◌, ap, not, subst}
use mathlib.Core.Bool.{beq}
use Rattle.row_select.specs.Filters.{is_among}
use Rattle.row_select.specs.steps.Listing.{passes}
use Rattle.row_select.proofs.Listed.{listed_passes}
use Rattle.row_select.proofs.conditions.Condition.passes.Goals as goal

pub returns-in-Among : goal.returns-in-Among
returns-in-Among c =
    let its = c.self.inside in
    let among = c.in-Among in
    subst (λ condition. not (beq c.stands_among.result among.negated) ≡ passes condition c.args.value.now) c.self.view_is
    (listed_passes its.filter.now among.column among.values among.negated its.listed.items c.args.value.now c.stands_among.result among.is c.self.invariant
    (c.stands_among.ensures ∙ ap (λ numbers. is_among numbers c.args.value.now) c.deref.ensures.value))
