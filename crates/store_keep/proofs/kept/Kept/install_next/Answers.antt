use Rattle.std.proofs.Common.{inl}
use Rattle.store_steps.proofs.Leaving.{leaves_weaker}
use Rattle.store_steps.specs.Kept.{Gives}
use Rattle.store_keep.specs.Commits.{GivesEntered}
use Rattle.store_keep.proofs.Reshaping.{job_refused}
use Rattle.store_keep.proofs.Staging.{left_still}
use Rattle.store_keep.proofs.kept.Kept.install_next.Goals as goal

pub returns-in-Some-clause-ends : goal.returns-in-Some-clause-ends
returns-in-Some-clause-ends g c =
    job_refused (g.J.Naming.base c.args.self.now.line.index) c.args.self.now.line c.args.self.now.files c.args.token.now c.args.new.now (g.D.Disk.faults c.args.self.now.disk) c.in-Some.fault c.in-Some.ensures

pub returns-in-Some-clause-crash : goal.returns-in-Some-clause-crash
returns-in-Some-clause-crash g c =
    leaves_weaker g.D.Disk c.args.self.now.disk c.args.self.now.disk {P = Gives (g.J.Naming.schema c.args.self.now.line.index) (g.J.Naming.base c.args.self.now.line.index) c.args.self.now.line.history}
    {R = GivesEntered (g.J.Naming.schema c.args.self.now.line.index) (g.J.Naming.base c.args.self.now.line.index) c.args.self.now.line.history c.args.self.now.line} (λ x gives. inl gives)
    (left_still g.D.Disk g.J.Naming.schema g.J.Naming.base c.args.self.now.disk c.args.self.now.files c.args.self.now.line c.requires.kept c.requires.none c.requires.rests (g.met.D.Disk.only_now c.args.self.now.disk))

pub returns-in-Err-clause-crash : goal.returns-in-Err-clause-crash
returns-in-Err-clause-crash g c =
    leaves_weaker g.D.Disk c.args.self.now.disk c.args.self.now.disk {P = Gives (g.J.Naming.schema c.args.self.now.line.index) (g.J.Naming.base c.args.self.now.line.index) c.args.self.now.line.history}
    {R = GivesEntered (g.J.Naming.schema c.args.self.now.line.index) (g.J.Naming.base c.args.self.now.line.index) c.args.self.now.line.history c.args.self.now.line} (λ x gives. inl gives)
    (left_still g.D.Disk g.J.Naming.schema g.J.Naming.base c.args.self.now.disk c.args.self.now.files c.args.self.now.line c.requires.kept c.requires.none c.requires.rests (g.met.D.Disk.only_now c.args.self.now.disk))
