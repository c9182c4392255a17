use Rattle.std.proofs.Common.{◌≡◌, take}
use Rattle.std.specs.List.{flat_map}
use Rattle.reshape.specs.steps.Moving.{moving_ids}
use Rattle.reshape.proofs.moving.ids_of.Given as goal

abbrev pub invariant-loop-layer : goal.invariant-loop-layer
invariant-loop-layer g l = l.ids.items ≡ flat_map (moving_ids l.job l.front) (take l.layer-index l.layers)
