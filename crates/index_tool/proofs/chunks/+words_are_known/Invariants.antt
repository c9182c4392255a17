use Rattle.std.proofs.Common.{length}
use Rattle.index_tool.proofs.chunks.+words_are_known.Given as goal

abbrev pub decreases-words_are_known : goal.decreases-words_are_known
decreases-words_are_known g l = length l.layers.now
