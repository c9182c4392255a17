use Rattle.std.proofs.Common.{length}
use Rattle.share_vectors.proofs.commits.+has_none.Given as goal

abbrev pub decreases-has_none : goal.decreases-has_none
decreases-has_none g l = length l.tokens.now
