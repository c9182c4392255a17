use Rattle.std.proofs.Common.{sym, subst}
use Rattle.step_tokens.specs.Shows.{IsShown}
use Rattle.step_tokens.specs.Ends.{idle}
use Rattle.step_line.proofs.showing.show.Goals as goal

pub publish_as-requires : goal.publish_as-requires
publish_as-requires g c next is views h at = (idle, subst (IsShown g.J.Naming.book g.J.Naming.schema g.J.Naming.base) (sym is) c.requires, tt)
