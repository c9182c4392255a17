use Rattle.std.proofs.Common.{◌≡◌, sym, ap, ◌∙◌}
use Rattle.step_book.specs.Shares.{ShareValue}
use Rattle.step_book.specs.Rules.{head_of}
use Rattle.step_book.proofs.share.Share.turn.Goals as goal

pub hold-held-requires : goal.hold-held-requires
hold-held-requires g c =
    let here : c.args.ledger.now.index ≡ c.self.inside.index = c.requires ∙ ap (λ (s : ShareValue). s.index) (sym c.self.view_is) in
    c.args.ledger.now.head_is ∙ (ap (λ i. head_of (g.K.Kind.of g.J.Naming.faults g.J.Naming.stops i)) here ∙ ap head_of (sym c.self.invariant))
