use Rattle.std.proofs.Common.{length, ◌-◌, ◌≤◌, ◌+◌}
use Rattle.query_tree.specs.TreeKeys.{node_keys}
use Rattle.op_eval.specs.Debts.{due}
use Rattle.op_eval.specs.steps.Wanted.{HasVisited}
use Rattle.op_eval.proofs.calls.wanted.Given as goal

abbrev pub invariant-rows : goal.invariant-rows
invariant-rows g l = HasVisited (g.C.Chunk.belongs l.chunk) (g.C.Chunk.place l.chunk) (g.C.Chunk.content l.chunk) l.root l.dead l.gone l.from l.search l.found.items
    × (l.steps + due (g.C.Chunk.content l.chunk) (node_keys l.root) l.from ≤ l.fn.steps + due (g.C.Chunk.content l.chunk) (node_keys l.root) 0)

abbrev pub decreases-rows : goal.decreases-rows
decreases-rows g l = length (g.C.Chunk.content l.chunk) - l.from
