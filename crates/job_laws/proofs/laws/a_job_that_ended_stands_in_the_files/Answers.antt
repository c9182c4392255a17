use Rattle.std.proofs.Common.{Option, subst}
use Rattle.step_history.specs.History.{Step}
use Rattle.store_steps.specs.Kept.{IsKept}
use Rattle.job_laws.proofs.Ended.{ends_in}
use Rattle.job_laws.proofs.laws.a_job_that_ended_stands_in_the_files.Goals as goal

pub returns : goal.returns
returns g c = λ before ends.
    let k = c.args.keeper.now.kept in
    let schema = g.J.Naming.schema k.line.index in
    let base = g.J.Naming.base k.line.index in
    let kept = subst (λ (w : Option Step). IsKept g.D.Disk schema base k.line.history w k.disk k.files) c.requires.none c.requires.sound.kept in
    ends_in g.D.Disk schema base k.line.history k.disk k.files kept before c.args.new.now c.requires.chunk ends
