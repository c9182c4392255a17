use Rattle.std.proofs.Common.{◌≡◌, take}
use Rattle.std.specs.List.{filter}
use Rattle.reshape.specs.steps.Moving.{takes}
use Rattle.reshape.proofs.planning.all_taken.Given as goal

abbrev pub invariant-loop-layer : goal.invariant-loop-layer
invariant-loop-layer g l = l.taken.items ≡ filter (takes l.job) (take l.layer-index l.layers)
