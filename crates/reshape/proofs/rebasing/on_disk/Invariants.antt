use Rattle.std.proofs.Common.{◌≡◌, take}
use Rattle.std.specs.List.{filter}
use Rattle.reshape.proofs.rebasing.on_disk.Given as goal

abbrev pub invariant-loop-layer : goal.invariant-loop-layer
invariant-loop-layer g l = l.out.items ≡ filter (λ layer. layer.disk) (take l.layer-index l.layers)
