use Rattle.store_steps.proofs.Keeping.{chunks_stand}
use Rattle.store_keep.proofs.Accepting.{end_is}
use Rattle.store_keep.proofs.laws.files_between_calls_are_those_of_the_history.Goals as goal

pub returns-clause-chunks : goal.returns-clause-chunks
returns-clause-chunks g c =
    let k = c.args.keeper.now.kept in
    chunks_stand g.D.Disk (g.J.Naming.schema k.line.index) (g.J.Naming.base k.line.index) k.line.history k.line.waiting k.disk k.files c.requires.kept

pub returns-clause-end : goal.returns-clause-end
returns-clause-end g c =
    let k = c.args.keeper.now.kept in
    end_is g.D.Disk g.J.Naming.schema g.J.Naming.base k.disk k.files k.line c.requires.kept
