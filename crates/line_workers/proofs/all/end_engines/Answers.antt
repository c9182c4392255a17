use Rattle.line_workers.specs.steps.Working.{collected}
use Rattle.line_workers.proofs.Collected.{can_end}
use Rattle.line_workers.proofs.all.end_engines.Goals as goal

pub close-requires : goal.close-requires
close-requires g c = can_end c.args.engines c.args.ending c.collect.new.ending (collected c.args.seats.now) c.requires.room c.requires.sit c.requires.differ c.collect.ensures.ending
