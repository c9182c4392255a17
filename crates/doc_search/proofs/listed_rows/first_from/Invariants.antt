use Rattle.std.proofs.Common.{◌-◌}
use Rattle.doc_search.specs.steps.ListedRows.{IsHalved}
use Rattle.doc_search.proofs.listed_rows.first_from.Given as goal

abbrev pub invariant-halves : goal.invariant-halves
invariant-halves g l = IsHalved (g.C.Chunk.content l.chunk) l.from l.number l.low l.high

abbrev pub decreases-halves : goal.decreases-halves
decreases-halves g l = l.high - l.low
