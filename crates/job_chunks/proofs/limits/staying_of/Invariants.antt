use Rattle.std.proofs.Common.{take}
use Rattle.std.specs.List.{filter}
use Rattle.job_chunks.specs.steps.Making.{AreStaying, stays}
use Rattle.job_chunks.proofs.limits.staying_of.Given as goal

abbrev pub invariant-loop-layer : goal.invariant-loop-layer
invariant-loop-layer g l = AreStaying (filter (stays l.job) (take l.layer-index l.layers)) l.staying
