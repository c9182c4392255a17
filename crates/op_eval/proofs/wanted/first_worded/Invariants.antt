use Rattle.std.proofs.Common.{length, ◌-◌}
use Rattle.op_eval.specs.steps.Streaming.{LooksFrom}
use Rattle.op_eval.proofs.wanted.first_worded.Given as goal

abbrev pub invariant-rows : goal.invariant-rows
invariant-rows g l = LooksFrom (g.C.Chunk.belongs l.chunk) (g.C.Chunk.place l.chunk) (g.C.Chunk.content l.chunk) l.fn.search.root.now l.dead l.gone l.from l.at l.search

abbrev pub decreases-rows : goal.decreases-rows
decreases-rows g l = length (g.C.Chunk.content l.chunk) - l.at
