use Rattle.store_keep.proofs.Publishing.{published_or_not}
use Rattle.store_keep.proofs.kept.Kept.publish.Goals as goal

pub returns-clause-kept : goal.returns-clause-kept
returns-clause-kept g c =
    published_or_not g.D.Disk g.J.Naming.schema g.J.Naming.base c.args.self.now.disk c.args.self.now.files c.args.self.now.line c.settle.new.self c.settle.result c.settle.ensures.ok c.settle.ensures.err c.requires.none c.requires.kept
