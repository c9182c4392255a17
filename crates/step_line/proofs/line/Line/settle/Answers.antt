use Rattle.std.proofs.Common.{◌≡◌, ◌+◌, ◌++◌, ◌∷◌, [], Some, All, length, sym, ap, subst, ◌∙◌, rules}
use Rattle.step_history.specs.History.{made_by}
use Rattle.step_book.specs.Fronts.{FrontValue}
use Rattle.step_line.specs.Lines.{IsBy, step_in, with_waiting}
use Rattle.step_line.specs.steps.Queues.{Waits, longer}
use Rattle.step_line.proofs.line.Line.settle.Goals as goal

pub invariant_of-self-in_ok-front-in-Some : goal.invariant_of-self-in_ok-front-in-Some
invariant_of-self-in_ok-front-in-Some g c =
    let front = c.self.inside.front in
    let counts = c.self.inside.counts.items in
    let step = c.in-Some.waiting.step in
    let told = c.in_ok-front-in-Some.ensures in
    let is : c.self.inside.waiting ≡ Some c.in-Some.waiting = search rules in
    let from : c.in-Some.waiting.from ≡ front = subst (Waits front) is c.self.invariant.3 in
    let next : c.in_ok-front-in-Some.field-0.front ≡ longer front step = told.next ∙ ap (λ (f : FrontValue). longer f step) from in
    let steps : c.in_ok-front-in-Some.field-0.front.steps ≡ front.steps ++ step ∷ [] = ap (λ (f : FrontValue). f.steps) next in (
      told.shown,
      told.last,
      c.self.invariant.2 ∙ sym (ap (λ (f : FrontValue). f.index) next),
      tt,
      λ place l. c.self.invariant.4 place l ∙ (ap (λ w. made_by (place + 1) (with_waiting front.steps (step_in w))) is ∙ ap (made_by (place + 1)) (sym steps)),
      tt,
      subst (All (IsBy (length counts))) (sym steps) (subst (λ w. All (IsBy (length counts)) (with_waiting front.steps (step_in w))) is c.self.invariant.6),
      told.turn,
    )

pub invariant_of-self-in_ok-front-in-Some-2 : goal.invariant_of-self-in_ok-front-in-Some-2
invariant_of-self-in_ok-front-in-Some-2 g c =
    let front = c.self.inside.front in
    let counts = c.self.inside.counts.items in
    let step = c.in-Some.waiting.step in
    let told = c.in_ok-front-in-Some.ensures in
    let is : c.self.inside.waiting ≡ Some c.in-Some.waiting = search rules in
    let from : c.in-Some.waiting.from ≡ front = subst (Waits front) is c.self.invariant.3 in
    let next : c.in_ok-front-in-Some.field-0.front ≡ longer front step = told.next ∙ ap (λ (f : FrontValue). longer f step) from in
    let steps : c.in_ok-front-in-Some.field-0.front.steps ≡ front.steps ++ step ∷ [] = ap (λ (f : FrontValue). f.steps) next in (
      told.shown,
      told.last,
      c.self.invariant.2 ∙ sym (ap (λ (f : FrontValue). f.index) next),
      tt,
      λ place l. c.self.invariant.4 place l ∙ (ap (λ w. made_by (place + 1) (with_waiting front.steps (step_in w))) is ∙ ap (made_by (place + 1)) (sym steps)),
      tt,
      subst (All (IsBy (length counts))) (sym steps) (subst (λ w. All (IsBy (length counts)) (with_waiting front.steps (step_in w))) is c.self.invariant.6),
      told.turn,
    )
