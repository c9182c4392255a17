use Rattle.std.proofs.Common.{length}
use Rattle.served_stores.proofs.ends.+unserved.Given as goal

abbrev pub decreases-unserved : goal.decreases-unserved
decreases-unserved g l = length l.stores.items
