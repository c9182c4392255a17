use Rattle.std.proofs.Common.{length}
use Rattle.searchd_top.proofs.opening.+open_stores.Given as goal

abbrev pub decreases-open_stores : goal.decreases-open_stores
decreases-open_stores g l = length l.indexes.now
