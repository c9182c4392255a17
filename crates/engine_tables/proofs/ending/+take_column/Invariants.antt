use Rattle.std.proofs.Common.{length}
use Rattle.engine_tables.proofs.ending.+take_column.Given as goal

abbrev pub decreases-take_column : goal.decreases-take_column
decreases-take_column g l = length l.seats.now
