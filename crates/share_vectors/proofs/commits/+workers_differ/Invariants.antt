use Rattle.std.proofs.Common.{length}
use Rattle.share_vectors.proofs.commits.+workers_differ.Given as goal

abbrev pub decreases-workers_differ : goal.decreases-workers_differ
decreases-workers_differ g l = length l.tokens.now
