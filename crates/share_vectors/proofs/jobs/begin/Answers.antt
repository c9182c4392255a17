use Rattle.std.specs.Arc.{arc_value}
use Rattle.share_vectors.specs.Users.{plain}
use Rattle.share_vectors.proofs.Beginning.{of_plain, plain_is, seen_now}
use Rattle.share_vectors.proofs.jobs.begin.Goals as goal

pub build-requires : goal.build-requires
build-requires g c = (
  plain,
  plain_is,
  of_plain g.J.Naming.schema g.J.Naming.base c.args.engine.now.index c.args.token.now.index c.snapshot.new.token.seen (arc_value c.in-Ok.from) c.requires.columns c.requires.index c.in-Ok.ensures.good c.in-Ok.ensures.found,
)

pub returns-in-Ok-build-clause-job : goal.returns-in-Ok-build-clause-job
returns-in-Ok-build-clause-job g c = record {
  seen = seen_now g.J.Naming.base c.args.engine.now.index c.args.token.now.index c.snapshot.new.token.seen (arc_value c.in-Ok.from) c.in-Ok-build.new.from c.requires.index c.in-Ok.ensures.found c.in-Ok-build.ensures.1;
  chunk = c.in-Ok-build.ensures.3 plain plain_is
      (of_plain g.J.Naming.schema g.J.Naming.base c.args.engine.now.index c.args.token.now.index c.snapshot.new.token.seen (arc_value c.in-Ok.from) c.requires.columns c.requires.index c.in-Ok.ensures.good c.in-Ok.ensures.found);
}
