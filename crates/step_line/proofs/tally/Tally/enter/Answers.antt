use Rattle.std.proofs.Common.{◌≡◌, ◌+◌, ◌-◌, ◌<◌, ◌^◌, ◌++◌, ◌∷◌, [], length, sym, ap, subst, ◌∙◌, arith}
use Rattle.step_book.specs.Shares.{ShareValue}
use Rattle.step_line.specs.Tallies.{TallyValue}
use Rattle.step_line.specs.steps.Callers.{AreCallers, IsTurn}
use Rattle.step_line.proofs.CallCounts.{callers_with, room_for}
use Rattle.step_line.proofs.tally.Tally.enter.Goals as goal

pub count_one-requires-clause-room : goal.count_one-requires-clause-room
count_one-requires-clause-room g c =
    let turn = subst (IsTurn c.self.inside.share) (sym c.take-turn.ensures.value ∙ c.in-Some.is) c.self.invariant.1 in
    let long = ap (λ (t : TallyValue). t.workers) c.self.view_is in
    let some = c.requires.among.0 in
    let most = c.requires.among.1 in
    room_for c.self.inside.counts.items c.self.inside.share.calls (c.args.worker - 1) turn.1 (omega (arith, some, most, long)) c.self.invariant.2

pub invariant_of-self : goal.invariant_of-self
invariant_of-self g c =
    let turn = subst (IsTurn c.self.inside.share) (sym c.take-turn.ensures.value ∙ c.in-Some.is) c.self.invariant.1 in
    let long = ap (λ (t : TallyValue). t.workers) c.self.view_is in
    let some = c.requires.among.0 in
    let most = c.requires.among.1 in
    let calls = ap (λ (s : ShareValue). s.calls) c.enter.ensures.calls ∙ ap (λ (s : ShareValue). s.calls ++ c.args.worker ∷ []) turn.0 in (
      c.self.invariant.0 ∙ sym (ap (λ (s : ShareValue). s.index) c.enter.ensures.calls ∙ ap (λ (s : ShareValue). s.index) turn.0),
      subst (IsTurn c.enter.result) (sym c.take-turn.ensures.after) tt,
      subst (AreCallers c.count_one.new.counts.items) (sym calls) (callers_with c.self.inside.counts.items c.count_one.new.counts.items c.self.inside.share.calls c.args.worker some (omega (arith, most, long)) c.count_one.ensures c.self.invariant.2),
    )
