use Rattle.std.proofs.Common.{length}
use Rattle.engine_tables.proofs.making.+deal.Given as goal

abbrev pub decreases-deal : goal.decreases-deal
decreases-deal g l = length l.seats.now
