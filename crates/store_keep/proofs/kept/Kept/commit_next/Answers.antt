use Rattle.std.proofs.Common.{inl}
use Rattle.store_steps.proofs.Leaving.{leaves_weaker}
use Rattle.store_steps.specs.Kept.{Gives}
use Rattle.store_keep.specs.Commits.{GivesEntered}
use Rattle.store_keep.proofs.Ending.{by_worker, count_room, is_commit, made_ends, refused_ends}
use Rattle.store_keep.proofs.Staging.{left_still}
use Rattle.store_keep.proofs.kept.Kept.commit_next.Goals as goal

pub make-requires-clause-by : goal.make-requires-clause-by
make-requires-clause-by g c =
    by_worker (g.J.Naming.schema c.args.self.now.line.index) (g.J.Naming.base c.args.self.now.line.index) c.args.self.now.line c.args.worker c.args.txn.now.ops c.in-Ok.prepared c.in-Ok.ensures c.requires.worker.0 c.requires.worker.1

pub make-requires-clause-room : goal.make-requires-clause-room
make-requires-clause-room g c = count_room c.args.self.now.line c.args.worker c.args.token.now.made c.requires.none c.requires.made c.in-Ok.ensures.room

pub returns-in-Ok-clause-ends : goal.returns-in-Ok-clause-ends
returns-in-Ok-clause-ends g c =
    made_ends (g.J.Naming.base c.args.self.now.line.index) c.args.self.now.line c.args.token.now c.args.worker c.args.txn.now.ops c.in-Ok.prepared.removed c.in-Ok.prepared.number c.in-Ok.prepared.pending.step
    (g.D.Disk.faults c.args.self.now.disk) (g.D.Disk.faults c.make.new.self.disk) c.make.new.self.line c.make.new.self.files.log c.make.new.token c.make.result
    (is_commit (g.J.Naming.schema c.args.self.now.line.index) (g.J.Naming.base c.args.self.now.line.index) c.args.self.now.line c.args.worker c.args.txn.now.ops c.in-Ok.prepared c.in-Ok.ensures) c.make.ensures.ends

pub returns-in-Err-clause-ends : goal.returns-in-Err-clause-ends
returns-in-Err-clause-ends g c =
    refused_ends (g.J.Naming.schema c.args.self.now.line.index) (g.J.Naming.base c.args.self.now.line.index) c.args.self.now.line c.args.token.now c.args.worker c.args.txn.now.ops (g.D.Disk.faults c.args.self.now.disk) c.args.self.now.files.log c.in-Err.fault c.in-Err.ensures

pub returns-in-Err-clause-crash : goal.returns-in-Err-clause-crash
returns-in-Err-clause-crash g c =
    leaves_weaker g.D.Disk c.args.self.now.disk c.args.self.now.disk {P = Gives (g.J.Naming.schema c.args.self.now.line.index) (g.J.Naming.base c.args.self.now.line.index) c.args.self.now.line.history}
    {R = GivesEntered (g.J.Naming.schema c.args.self.now.line.index) (g.J.Naming.base c.args.self.now.line.index) c.args.self.now.line.history c.args.self.now.line} (λ x gives. inl gives)
    (left_still g.D.Disk g.J.Naming.schema g.J.Naming.base c.args.self.now.disk c.args.self.now.files c.args.self.now.line c.requires.kept c.requires.none c.requires.rests (g.met.D.Disk.only_now c.args.self.now.disk))
