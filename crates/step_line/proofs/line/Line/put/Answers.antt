use Rattle.std.proofs.Common.{Some, ◌≡◌, ◌<◌, ◌^◌, ◌+◌, ◌-◌, ◌∙◌, sym, ap, subst, arith, length, All}
use Rattle.step_history.specs.History.{made_by}
use Rattle.step_book.specs.Fronts.{FrontValue}
use Rattle.step_line.specs.Lines.{LineValue, IsBy, MayFollow, with_waiting}
use Rattle.step_line.proofs.CommitCounts.{all_by_with, counts_with, has_room, is_among}
use Rattle.step_line.proofs.Ready.{ready_none}
use Rattle.step_line.proofs.line.Line.put.Goals as goal

pub count_step-requires-clause-among : goal.count_step-requires-clause-among
count_step-requires-clause-among g c worker is =
    is_among (length c.self.inside.counts.items) worker c.args.pending.step (subst (λ (v : LineValue). IsBy v.workers c.args.pending.step) (sym c.self.view_is) c.requires.by) (sym c.worker-worker.ensures.worker ∙ is)

pub count_step-requires-clause-room : goal.count_step-requires-clause-room
count_step-requires-clause-room g c worker is =
    let steps = c.self.inside.front.steps in
    let counts = c.self.inside.counts.items in
    let none = ap (λ (v : LineValue). v.waiting) c.self.view_is ∙ c.requires.none in
    let among = is_among (length counts) worker c.args.pending.step (subst (λ (v : LineValue). IsBy v.workers c.args.pending.step) (sym c.self.view_is) c.requires.by) (sym c.worker-worker.ensures.worker ∙ is) in
    let from : c.args.pending.from ≡ c.self.inside.front = c.requires.from ∙ ap (λ (v : LineValue). record { index = v.index; steps = v.history }) (sym c.self.view_is) in
    let few : length steps + 1 < 2 ^ 63 = rw from at c.worker-worker.ensures.may.room in
    let some = among.0 in
    let most = among.1 in
    has_room counts steps (worker - 1) few (omega (arith, some, most)) (λ k h. c.self.invariant.4 k h ∙ ap (λ w. made_by (k + 1) (with_waiting steps w)) none)

pub enter-waiting-requires-clause-book : goal.enter-waiting-requires-clause-book
enter-waiting-requires-clause-book g c =
    let from : c.args.pending.from ≡ c.self.inside.front = c.requires.from ∙ ap (λ (v : LineValue). record { index = v.index; steps = v.history }) (sym c.self.view_is) in
    c.self.invariant.2 ∙ sym (ap (λ (f : FrontValue). f.index) from)

pub enter-waiting-requires-clause-turn : goal.enter-waiting-requires-clause-turn
enter-waiting-requires-clause-turn g c =
    let none = ap (λ (v : LineValue). v.waiting) c.self.view_is ∙ c.requires.none in
    let from : c.args.pending.from ≡ c.self.inside.front = c.requires.from ∙ ap (λ (v : LineValue). record { index = v.index; steps = v.history }) (sym c.self.view_is) in
    c.take-turn.ensures.value ∙ (ready_none c.self.inside.front c.self.inside.turn c.self.inside.waiting c.self.invariant.7 none ∙ ap Some (sym from))

pub invariant_of-self : goal.invariant_of-self
invariant_of-self g c =
    let steps = c.self.inside.front.steps in
    let none = ap (λ (v : LineValue). v.waiting) c.self.view_is ∙ c.requires.none in
    let from : c.args.pending.from ≡ c.self.inside.front = c.requires.from ∙ ap (λ (v : LineValue). record { index = v.index; steps = v.history }) (sym c.self.view_is) in
    let next : MayFollow (g.J.Naming.schema c.self.inside.front.index) (g.J.Naming.base c.self.inside.front.index) steps c.args.pending.step = rw from at c.worker-worker.ensures.may in
    rw c.enter-waiting.ensures (
      c.self.invariant.0,
      c.self.invariant.1,
      c.self.invariant.2,
      from,
      counts_with c.self.inside.counts.items c.count_step.new.counts.items steps c.args.pending.step c.worker-worker.result c.count_step.ensures c.worker-worker.ensures.worker
          (subst (λ (v : LineValue). IsBy v.workers c.args.pending.step) (sym c.self.view_is) c.requires.by)
          (λ k h. c.self.invariant.4 k h ∙ ap (λ w. made_by (k + 1) (with_waiting steps w)) none),
      next,
      all_by_with c.self.inside.counts.items c.count_step.new.counts.items steps c.args.pending.step c.worker-worker.result c.count_step.ensures
          (subst (λ (v : LineValue). IsBy v.workers c.args.pending.step) (sym c.self.view_is) c.requires.by)
          (subst (λ w. All (IsBy (length c.self.inside.counts.items)) (with_waiting steps w)) none c.self.invariant.6),
      tt,
    )
