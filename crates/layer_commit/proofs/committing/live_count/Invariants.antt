use Rattle.std.proofs.Common.{◌≡◌, ◌≤◌, ◌*◌, length, take}
use Rattle.doc_types.specs.Snapshots.{all_living}
use Rattle.layer_commit.proofs.committing.live_count.Given as goal

abbrev pub invariant-loop-layer : goal.invariant-loop-layer
invariant-loop-layer g l = (l.count ≡ length (all_living (take l.layer-index l.layers))) × (l.count ≤ 4294967295 * l.layer-index)
