use Rattle.std.proofs.Common.{take}
use Rattle.std.specs.List.{AllPairs}
use Rattle.rankers.specs.Weight.{Differ}
use Rattle.eval_vectors.proofs.weights.are_apart.Given as goal

abbrev pub invariant-loop-place : goal.invariant-loop-place
invariant-loop-place l = AllPairs Differ (take l.place l.hits)
