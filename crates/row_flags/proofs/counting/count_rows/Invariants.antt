use Rattle.std.proofs.Common.{◌≡◌, ◌+◌, ◌-◌, ◌≤◌, length}
use Rattle.op_eval.specs.steps.Wanted.{is_wanted, numbers_from}
use Rattle.row_flags.proofs.counting.count_rows.Given as goal

abbrev pub invariant-windows : goal.invariant-windows
invariant-windows g l = record {
  within : l.at ≤ length (g.C.Chunk.content l.chunk);
  count : l.count + length (numbers_from (is_wanted l.root l.dead) l.at (g.C.Chunk.content l.chunk)) ≡ length (numbers_from (is_wanted l.root l.dead) l.fn.from (g.C.Chunk.content l.chunk));
}

abbrev pub decreases-windows : goal.decreases-windows
decreases-windows g l = length (g.C.Chunk.content l.chunk) - l.at
