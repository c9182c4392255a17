use Rattle.std.proofs.Common.{◌≤◌, length}
use Rattle.layer_joins.specs.steps.Layering.{AreInMemory}
use Rattle.layer_joins.proofs.merging.first_in_memory.Given as goal

abbrev pub invariant-loop-first : goal.invariant-loop-first
invariant-loop-first g l = (l.first ≤ length l.layers) × AreInMemory l.first l.layers

abbrev pub decreases-loop-first : goal.decreases-loop-first
decreases-loop-first g l = l.first
