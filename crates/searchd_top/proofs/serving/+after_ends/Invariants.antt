use Rattle.std.proofs.Common.{length}
use Rattle.searchd_top.proofs.serving.+after_ends.Given as goal

abbrev pub decreases-after_ends : goal.decreases-after_ends
decreases-after_ends g l = length l.names.items
