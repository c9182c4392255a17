use Rattle.std.proofs.Common.{◌≡◌, take, length}
use Rattle.std.specs.List.{sum_by}
use Rattle.doc_types.specs.Snapshots.{living}
use Rattle.doc_types.proofs.snapshot.Snapshot.live_count.Given as goal

abbrev pub invariant-loop-layer : goal.invariant-loop-layer
invariant-loop-layer g l = l.count ≡ sum_by (λ layer. length (living layer)) (take l.layer-index l.layer-items)
