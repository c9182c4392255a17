use Rattle.std.proofs.Common.{subst}
use Rattle.step_line.specs.Lines.{LineValue}
use Rattle.store_steps.specs.Kept.{GivesEither, LeavesOnly}
use Rattle.store_keep.proofs.Reshaping.{settled_leaves}
use Rattle.store_keep.proofs.kept.Kept.publish_end.Goals as goal

pub returns-in-Ok-clause-crash : goal.returns-in-Ok-clause-crash
returns-in-Ok-clause-crash g c =
    let line = c.args.self.now.line in
    let next = c.publish.new.self.line in
    let last = c.remove_all.new.self.disk in
    settled_leaves g.D.Disk g.J.Naming.schema g.J.Naming.base c.args.self.now.disk last line next c.in-Ok.ensures.ok
    (subst (λ d. LeavesOnly g.D.Disk d last (GivesEither (g.J.Naming.schema next.index) (g.J.Naming.base next.index) next.history next.waiting)) c.publish.ensures.disk c.remove_all.ensures.crash)

pub returns-in-Err-clause-crash : goal.returns-in-Err-clause-crash
returns-in-Err-clause-crash g c =
    let next = c.publish.new.self.line in
    let last = c.remove_all-in-Err.new.self.disk in
    subst (λ (l : LineValue). LeavesOnly g.D.Disk c.args.self.now.disk last (GivesEither (g.J.Naming.schema l.index) (g.J.Naming.base l.index) l.history l.waiting)) c.in-Err.ensures.err
    (subst (λ d. LeavesOnly g.D.Disk d last (GivesEither (g.J.Naming.schema next.index) (g.J.Naming.base next.index) next.history next.waiting)) c.publish.ensures.disk c.remove_all-in-Err.ensures.crash)
