use Rattle.std.proofs.Common.{sym, subst}
use Rattle.step_history.specs.History.{AreOf, Base}
use Rattle.store_keep.proofs.keeper.Keeper.named.Goals as goal

pub lines_of-requires-clause-of : goal.lines_of-requires-clause-of
lines_of-requires-clause-of g c = subst (λ (b : Base). AreOf (g.J.Naming.schema c.args.index) b.opening) (sym c.requires.base) c.requires.of
