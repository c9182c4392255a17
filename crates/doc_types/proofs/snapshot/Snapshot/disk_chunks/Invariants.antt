use Rattle.std.proofs.Common.{◌≡◌, ◌≤◌, take}
use Rattle.std.specs.List.{count_by}
use Rattle.doc_types.proofs.snapshot.Snapshot.disk_chunks.Given as goal

abbrev pub invariant-loop-layer : goal.invariant-loop-layer
invariant-loop-layer g l = (l.count ≤ l.layer-index) × (l.count ≡ count_by (λ layer. layer.disk) (take l.layer-index l.layer-items))
