use Rattle.std.proofs.Common.{◌-◌}
use Rattle.prefix_terms.proofs.Runs.{IsBetween}
use Rattle.prefix_terms.proofs.parts.front.Given as goal

abbrev pub invariant-halves : goal.invariant-halves
invariant-halves g l = IsBetween (g.C.Chunk.words_of l.chunk) l.beginning l.with l.low l.high

abbrev pub decreases-halves : goal.decreases-halves
decreases-halves g l = l.high - l.low
