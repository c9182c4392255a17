use Rattle.std.proofs.Common.{length}
use Rattle.engine_tables.proofs.ending.+end_all.Given as goal

abbrev pub decreases-end_all : goal.decreases-end_all
decreases-end_all g l = length l.tables.items
