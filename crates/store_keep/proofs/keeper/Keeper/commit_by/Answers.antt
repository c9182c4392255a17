use Rattle.store_steps.proofs.Keeping.{gives_now}
use Rattle.store_steps.proofs.Leaving.{leaves_still}
use Rattle.store_steps.specs.Kept.{GivesEither}
use Rattle.store_keep.proofs.Straying.{commit_leaves, ready_leaves}
use Rattle.store_keep.proofs.keeper.Keeper.commit_by.Goals as goal

pub returns-in-Some-clause-crash : goal.returns-in-Some-clause-crash
returns-in-Some-clause-crash g c =
    let line = c.args.self.now.kept.line in
    ready_leaves g.D.Disk (g.J.Naming.schema line.index) (g.J.Naming.base line.index) c.args.self.now.kept.disk c.args.self.now.kept.disk line line
    (leaves_still g.D.Disk c.args.self.now.kept.disk {P = GivesEither (g.J.Naming.schema line.index) (g.J.Naming.base line.index) line.history line.waiting} (g.met.D.Disk.only_now c.args.self.now.kept.disk)
    (gives_now g.D.Disk (g.J.Naming.schema line.index) (g.J.Naming.base line.index) line.history line.waiting c.args.self.now.kept.disk c.args.self.now.kept.files c.requires.kept))

pub returns-in-Ok-clause-crash : goal.returns-in-Ok-clause-crash
returns-in-Ok-clause-crash g c =
    commit_leaves g.D.Disk g.J.Naming.schema g.J.Naming.base c.args.self.now.kept.disk c.ready.new.self.disk c.commit_next.new.self.disk c.args.self.now.kept.line c.ready.new.self.line c.commit_next.new.self.line c.in-Ok.ensures.ends.0 c.ready.ensures.crash c.commit_next.ensures.crash

pub returns-in-Err-NoMemory-clause-crash : goal.returns-in-Err-NoMemory-clause-crash
returns-in-Err-NoMemory-clause-crash g c =
    ready_leaves g.D.Disk (g.J.Naming.schema c.args.self.now.kept.line.index) (g.J.Naming.base c.args.self.now.kept.line.index) c.args.self.now.kept.disk c.ready.new.self.disk c.args.self.now.kept.line c.ready.new.self.line c.ready.ensures.crash

pub returns-in-Err-Fault-clause-crash : goal.returns-in-Err-Fault-clause-crash
returns-in-Err-Fault-clause-crash g c =
    ready_leaves g.D.Disk (g.J.Naming.schema c.args.self.now.kept.line.index) (g.J.Naming.base c.args.self.now.kept.line.index) c.args.self.now.kept.disk c.ready.new.self.disk c.args.self.now.kept.line c.ready.new.self.line c.ready.ensures.crash
