use Rattle.std.proofs.Common.{◌≤◌, take}
use Rattle.row_plans.specs.Cursors.{Agree, has_at}
use Rattle.row_plans.specs.steps.Tallies.{IsTally}
use Rattle.row_plans.proofs.bounds.tally.Given as goal

abbrev pub invariant-loop-word : goal.invariant-loop-word
invariant-loop-word g l = Agree (g.C.Chunk.belongs l.chunk) (g.C.Chunk.place l.chunk) l.from l.fn.cursors l.cursors × IsTally (has_at (g.C.Chunk.place l.chunk) l.fn.cursors) (take l.word-index l.words) l.from l.at l.count l.later × (l.count ≤ l.word-index)
