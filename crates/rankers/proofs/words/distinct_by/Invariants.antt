use Rattle.std.proofs.Common.{take, ◌≤◌}
use Rattle.rankers.proofs.WordTable.{AreMet}
use Rattle.rankers.proofs.words.distinct_by.Given as goal

abbrev pub invariant-loop-hit : goal.invariant-loop-hit
invariant-loop-hit l = AreMet l.field l.met l.count (take l.hit-index l.hits) × (l.count ≤ l.hit-index)
