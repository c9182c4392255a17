use Rattle.std.proofs.Common.{length}
use Rattle.line_workers.proofs.all.+collect.Given as goal

abbrev pub decreases-collect : goal.decreases-collect
decreases-collect g l = length l.seats.now
