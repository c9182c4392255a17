use Rattle.std.proofs.Common.{◌≡◌, take}
use Rattle.store_steps.specs.Damage.{again_in}
use Rattle.chunk_files.proofs.again.again_in.Given as goal

abbrev pub invariant-layers : goal.invariant-layers
invariant-layers l = l.first ≡ again_in (take l.other-index l.before) l.layer
