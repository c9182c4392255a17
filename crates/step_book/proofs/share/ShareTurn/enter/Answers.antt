use Rattle.std.proofs.Common.{◌≡◌, sym, ap, ◌∙◌}
use Rattle.step_book.specs.Shares.{ShareValue}
use Rattle.step_book.specs.Rules.{head_of}
use Rattle.step_book.proofs.share.ShareTurn.enter.Goals as goal

pub add-past-requires-clause-head : goal.add-past-requires-clause-head
add-past-requires-clause-head g c =
    let here : c.args.ledger.now.index ≡ c.self.inside.index = c.requires.index ∙ ap (λ (s : ShareValue). s.index) (sym c.self.view_is) in
    c.args.ledger.now.head_is ∙ (ap (λ i. head_of (g.K.Kind.of g.J.Naming.faults g.J.Naming.stops i)) here ∙ ap head_of (sym c.self.invariant))

pub add-past-requires-clause-other : goal.add-past-requires-clause-other
add-past-requires-clause-other g c =
    let here : c.seen.inside.index ≡ c.self.inside.index = ap (λ (s : ShareValue). s.index) c.seen.view_is ∙ (c.requires.seen ∙ ap (λ (s : ShareValue). s.index) (sym c.self.view_is)) in
    c.seen.invariant ∙ (ap (λ i. g.K.Kind.of g.J.Naming.faults g.J.Naming.stops i) here ∙ sym c.self.invariant)
