use Rattle.std.proofs.Common.{◌≡◌, ◌++◌, ◌∷◌, [], sym, ap, subst, ◌∙◌}
use Rattle.step_history.specs.History.{IsGood, Follows, AreOf, snapshot_of}
use Rattle.step_history.proofs.Steps.{grows}
use Rattle.step_book.specs.Fronts.{FrontValue}
use Rattle.step_book.specs.Rules.{head_of}
use Rattle.step_book.proofs.front.Turn.add.Goals as goal

pub add-past-requires-clause-head : goal.add-past-requires-clause-head
add-past-requires-clause-head g c =
    let here : c.args.book.now.index ≡ c.self.inside.index = c.requires.index ∙ ap (λ (f : FrontValue). f.index) (sym c.self.view_is) in
    c.args.book.now.head_is ∙ (ap (λ i. head_of (g.J.Naming.book i)) here ∙ ap head_of (sym c.self.invariant.0))

pub named-requires-clause-good : goal.named-requires-clause-good
named-requires-clause-good g c =
    let is : c.add-past.result.seen.log ≡ c.self.inside.held.past.seen.log ++ c.args.made.now ∷ [] = c.add-past.ensures.log in
    let at = ap (λ (f : FrontValue). f.index) c.self.view_is in
    let follows = subst (λ (f : FrontValue). Follows (g.J.Naming.base f.index) f.steps c.args.made.now) (sym c.self.view_is) c.requires.follows in
    let of = subst (λ i. AreOf (g.J.Naming.schema i) (snapshot_of c.args.made.now)) (sym at) c.requires.of in
    subst (IsGood (g.J.Naming.schema c.self.inside.index) (g.J.Naming.base c.self.inside.index)) (sym is) (grows (g.J.Naming.schema c.self.inside.index) (g.J.Naming.base c.self.inside.index) c.self.inside.held.past.seen.log c.args.made.now c.self.invariant.1 follows of)
