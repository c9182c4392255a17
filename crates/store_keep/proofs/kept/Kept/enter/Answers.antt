use Rattle.store_keep.proofs.Staging.{entered, follows, leaves, stands, stayed}
use Rattle.store_keep.proofs.kept.Kept.enter.Goals as goal

pub stage-requires-clause-follows : goal.stage-requires-clause-follows
stage-requires-clause-follows g c =
    follows g.D.Disk g.J.Naming.schema g.J.Naming.base c.args.self.now.disk c.args.self.now.files c.args.self.now.line c.requires.kept c.requires.none c.requires.rests c.args.pending.step c.args.staged.now c.requires.enters

pub stage-requires-clause-stands : goal.stage-requires-clause-stands
stage-requires-clause-stands g c = stands g.D.Disk g.J.Naming.schema g.J.Naming.base c.args.self.now.disk c.args.self.now.files c.args.self.now.line c.requires.kept c.requires.none c.requires.rests

pub returns-in-Ok-clause-kept : goal.returns-in-Ok-clause-kept
returns-in-Ok-clause-kept g c =
    entered g.D.Disk g.J.Naming.schema g.J.Naming.base c.args.self.now.disk c.args.self.now.files c.args.self.now.line c.requires.kept c.requires.none c.requires.rests
    c.stage.new.disk c.stage.new.self c.put.new.self c.args.pending.step c.args.staged.now c.requires.enters c.put.ensures c.in-Ok.ensures.ok c.in-Ok.ensures.stands c.in-Ok.ensures.durable (g.met.D.Disk.tells c.stage.new.disk) c.stage.ensures.crash

pub returns-in-Ok-clause-crash : goal.returns-in-Ok-clause-crash
returns-in-Ok-clause-crash g c =
    leaves g.D.Disk g.J.Naming.schema g.J.Naming.base c.args.self.now.disk c.args.self.now.files c.args.self.now.line c.requires.kept c.requires.none c.requires.rests
    c.stage.new.disk (g.met.D.Disk.only_now c.args.self.now.disk) c.stage.ensures.crash

pub returns-in-Err-clause-kept : goal.returns-in-Err-clause-kept
returns-in-Err-clause-kept g c =
    stayed g.D.Disk g.J.Naming.schema g.J.Naming.base c.args.self.now.disk c.args.self.now.files c.args.self.now.line c.requires.kept c.requires.none c.requires.rests
    c.stage.new.disk c.stage.new.self c.in-Err.ensures.err c.in-Err.ensures.stands c.stage.ensures.crash

pub returns-in-Err-clause-crash : goal.returns-in-Err-clause-crash
returns-in-Err-clause-crash g c =
    leaves g.D.Disk g.J.Naming.schema g.J.Naming.base c.args.self.now.disk c.args.self.now.files c.args.self.now.line c.requires.kept c.requires.none c.requires.rests
    c.stage.new.disk (g.met.D.Disk.only_now c.args.self.now.disk) c.stage.ensures.crash
