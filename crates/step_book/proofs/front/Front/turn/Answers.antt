use Rattle.std.proofs.Common.{◌≡◌, sym, ap, ◌∙◌}
use Rattle.step_book.specs.Fronts.{FrontValue}
use Rattle.step_book.specs.Rules.{head_of}
use Rattle.step_book.proofs.front.Front.turn.Goals as goal

pub hold-held-requires : goal.hold-held-requires
hold-held-requires g c =
    let here : c.args.book.now.index ≡ c.self.inside.index = c.requires ∙ ap (λ (f : FrontValue). f.index) (sym c.self.view_is) in
    c.args.book.now.head_is ∙ (ap (λ i. head_of (g.J.Naming.book i)) here ∙ ap head_of (sym c.self.invariant.0))
