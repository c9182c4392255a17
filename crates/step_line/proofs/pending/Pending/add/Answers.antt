use Rattle.std.proofs.Common.{sym, ap, subst, ◌∙◌}
use Rattle.step_history.specs.History.{AreOf, snapshot_of}
use Rattle.step_book.specs.Fronts.{FrontValue}
use Rattle.step_line.specs.Lines.{PendingValue}
use Rattle.step_line.proofs.pending.Pending.add.Goals as goal

pub add-requires-clause-of : goal.add-requires-clause-of
add-requires-clause-of g c =
    subst (λ (f : FrontValue). AreOf (g.J.Naming.schema f.index) (snapshot_of c.self.inside.made)) (ap (λ (p : PendingValue). p.from) c.self.view_is ∙ sym c.requires.turn) c.self.invariant.1.of
