use Rattle.std.proofs.Common.{◌-◌}
use Rattle.doc_search.specs.steps.ListedRows.{GoBy}
use Rattle.doc_search.proofs.scanning.first_passing.Given as goal

abbrev pub invariant-rows : goal.invariant-rows
invariant-rows g l = GoBy l.asked (g.C.Chunk.content l.chunk) l.from l.row

abbrev pub decreases-rows : goal.decreases-rows
decreases-rows g l = l.end - l.row
