use Rattle.std.proofs.Common.{◌-◌, length, ap, sym, ◌∙◌}
use Rattle.std.proofs.lemmas.Bool.{ltb-false}
use Rattle.occ_lists.specs.steps.Wanted.{is_upto}
use Rattle.occ_lists.proofs.Reaching.{reached_there, reached_elsewhere, reached_nowhere}
use Rattle.occ_lists.proofs.wanted.Wanted.reached.Goals as goal

pub returns-in_err-place : goal.returns-in_err-place
returns-in_err-place c last =
    let past = ltb-false (c.args.self.now.times - 1) (length c.from_on.result.now) (sym c.in_err-place.ensures.lookup.0) in
    reached_nowhere c.args.self.now c.requires c.args.from c.deref.result.now c.from_on.result.now c.deref.ensures.value c.from_on.ensures.all past last
    ∙ sym (ap (λ result. is_upto result last) c.from_residual.ensures)

pub returns-then-place-from : goal.returns-then-place-from
returns-then-place-from c =
    let lookup = c.in_ok-place.ensures.lookup in
    reached_there c.args.self.now c.requires c.args.from c.deref.result.now c.from_on.result.now c.deref.ensures.value c.from_on.ensures.all c.in_ok-place.place.now lookup.3.0 lookup.1 c.if-place-from.true

pub returns-else-place-from : goal.returns-else-place-from
returns-else-place-from c =
    let lookup = c.in_ok-place.ensures.lookup in
    reached_elsewhere c.args.self.now c.requires c.args.from c.deref.result.now c.from_on.result.now c.deref.ensures.value c.from_on.ensures.all c.in_ok-place.place.now lookup.3.0 lookup.1 c.if-place-from.false
