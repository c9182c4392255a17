use Rattle.std.proofs.Common.{length}
use Rattle.index_tool.proofs.chunks.+print_chunks.Given as goal

abbrev pub decreases-print_chunks : goal.decreases-print_chunks
decreases-print_chunks g l = length l.layers.now
