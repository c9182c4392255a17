use Rattle.std.proofs.Common.{◌≡◌, ◌++◌, take}
use Rattle.reshape.specs.steps.Moving.{young_layers}
use Rattle.reshape.proofs.rebasing.push_all_young.Given as goal

abbrev pub invariant-loop-layer : goal.invariant-loop-layer
invariant-loop-layer g l = l.out.items ≡ l.initial.out.items ++ young_layers l.front (take l.layer-index l.layers)
