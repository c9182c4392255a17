use Rattle.std.proofs.Common.{length}
use Rattle.engine_tables.proofs.making.+give_back.Given as goal

abbrev pub decreases-give_back : goal.decreases-give_back
decreases-give_back g l = length l.stores.items
