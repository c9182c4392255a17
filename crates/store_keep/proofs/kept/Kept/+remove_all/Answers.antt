use Rattle.std.proofs.Common.{subst}
use Rattle.step_line.specs.Lines.{LineValue}
use Rattle.store_steps.specs.Kept.{GivesEither, LeavesOnly}
use Rattle.store_steps.proofs.Keeping.{gives_now}
use Rattle.store_steps.proofs.Leaving.{leaves_still, leaves_then}
use Rattle.store_keep.proofs.kept.Kept.+remove_all.Goals as goal

pub returns-in-Some-clause-crash : goal.returns-in-Some-clause-crash
returns-in-Some-clause-crash g t c =
    let after = c.remove_unnamed.new.self in
    leaves_then g.D.Disk c.args.self.now.disk after.disk c.remove_all.new.self.disk c.remove_unnamed.ensures.crash
    (subst (λ (l : LineValue). LeavesOnly g.D.Disk after.disk c.remove_all.new.self.disk (GivesEither (g.J.Naming.schema l.index) (g.J.Naming.base l.index) l.history l.waiting)) c.remove_unnamed.ensures.line c.remove_all.ensures.crash) (λ x p. p) (λ x p. p)

pub returns-in_default-clause-crash : goal.returns-in_default-clause-crash
returns-in_default-clause-crash g t c = leaves_still g.D.Disk c.args.self.now.disk (g.met.D.Disk.only_now c.args.self.now.disk) (gives_now g.D.Disk _ _ _ _ _ _ c.requires.kept)
