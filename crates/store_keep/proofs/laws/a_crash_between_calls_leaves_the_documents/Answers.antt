use Rattle.step_line.specs.Lines.{entered}
use Rattle.store_steps.proofs.Keeping.{gives_at_rest, gives_now, published}
use Rattle.store_keep.proofs.laws.a_crash_between_calls_leaves_the_documents.Goals as goal

pub returns-clause-either : goal.returns-clause-either
returns-clause-either g c =
    let k = c.args.keeper.now.kept in
    gives_now g.D.Disk (g.J.Naming.schema k.line.index) (g.J.Naming.base k.line.index) k.line.history k.line.waiting k.disk k.files c.requires.kept

pub returns-clause-all : goal.returns-clause-all
returns-clause-all g c = λ none x may.
    let k = c.args.keeper.now.kept in
    gives_at_rest g.D.Disk (g.J.Naming.schema k.line.index) (g.J.Naming.base k.line.index) (entered k.line) k.disk k.files
    (published g.D.Disk (g.J.Naming.schema k.line.index) (g.J.Naming.base k.line.index) k.line.history k.line.waiting k.disk k.files c.requires.kept none) none x may
