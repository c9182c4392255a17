use Rattle.std.proofs.Common.{length}
use Rattle.store_keep.proofs.kept.Kept.+remove_all.Given as goal

abbrev pub decreases-remove_all : goal.decreases-remove_all
decreases-remove_all g l = length l.old.now
