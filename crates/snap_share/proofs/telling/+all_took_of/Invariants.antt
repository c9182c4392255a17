use Rattle.std.proofs.Common.{length}
use Rattle.snap_share.proofs.telling.+all_took_of.Given as goal

abbrev pub decreases-all_took_of : goal.decreases-all_took_of
decreases-all_took_of g l = length l.tokens.now
