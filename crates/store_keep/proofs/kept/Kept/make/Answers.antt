use Rattle.std.proofs.Common.{inl}
use Rattle.store_steps.proofs.Leaving.{leaves_weaker}
use Rattle.store_steps.specs.Kept.{Gives}
use Rattle.store_keep.specs.Commits.{GivesEntered}
use Rattle.store_keep.proofs.Ending.{made_leaves, same_entered}
use Rattle.store_keep.proofs.kept.Kept.make.Goals as goal

pub returns-in-Ok-clause-crash : goal.returns-in-Ok-clause-crash
returns-in-Ok-clause-crash g c =
    made_leaves g.D.Disk g.J.Naming.schema g.J.Naming.base c.args.self.now.disk c.enter.new.self.disk c.finish.new.self.disk c.args.self.now.line c.enter.new.self.line c.finish.new.self.line c.args.prepared.pending.step c.in-Ok.ensures.ok
    (same_entered c.enter.new.self.line c.finish.new.self.line c.count.new.self c.finish.new.token c.args.prepared.number c.args.prepared.removed (g.D.Disk.faults c.enter.new.self.disk) (g.D.Disk.faults c.finish.new.self.disk) c.finish.new.self.files.log c.finish.result c.finish.ensures.ends)
    c.enter.ensures.crash c.finish.ensures.crash

pub returns-clause-crash : goal.returns-clause-crash
returns-clause-crash g c =
    leaves_weaker g.D.Disk c.args.self.now.disk c.enter.new.self.disk {P = Gives (g.J.Naming.schema c.args.self.now.line.index) (g.J.Naming.base c.args.self.now.line.index) c.args.self.now.line.history}
    {R = GivesEntered (g.J.Naming.schema c.args.self.now.line.index) (g.J.Naming.base c.args.self.now.line.index) c.args.self.now.line.history c.enter.new.self.line} (λ x gives. inl gives) c.enter.ensures.crash
