use Rattle.std.proofs.Common.{Option, subst}
use Rattle.step_history.specs.History.{Step}
use Rattle.store_steps.specs.Kept.{IsKept}
use Rattle.job_laws.proofs.Ended.{answered, ends_in, has_root}
use Rattle.job_laws.proofs.laws.a_job_that_was_answered_has_its_root.Goals as goal

pub returns-clause-ends : goal.returns-clause-ends
returns-clause-ends g c = λ before was.
    let k = c.args.keeper.now.kept in
    (answered (g.J.Naming.base k.line.index) before c.args.new.now k.line k.files was).history

pub returns-clause-files : goal.returns-clause-files
returns-clause-files g c = λ before was.
    let k = c.args.keeper.now.kept in
    let schema = g.J.Naming.schema k.line.index in
    let base = g.J.Naming.base k.line.index in
    let end = answered base before c.args.new.now k.line k.files was in
    let kept = subst (λ (w : Option Step). IsKept g.D.Disk schema base k.line.history w k.disk k.files) end.none c.requires.sound.kept in
    ends_in g.D.Disk schema base k.line.history k.disk k.files kept before c.args.new.now c.requires.chunk end.history

pub returns-clause-root : goal.returns-clause-root
returns-clause-root g c = λ before was.
    let k = c.args.keeper.now.kept in
    let schema = g.J.Naming.schema k.line.index in
    let base = g.J.Naming.base k.line.index in
    let end = answered base before c.args.new.now k.line k.files was in
    let kept = subst (λ (w : Option Step). IsKept g.D.Disk schema base k.line.history w k.disk k.files) end.none c.requires.sound.kept in
    has_root g.D.Disk schema base k.line.history k.disk k.files kept before c.args.new.now c.requires.chunk end.history end.sure
