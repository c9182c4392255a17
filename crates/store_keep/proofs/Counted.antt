-- How many chunks of a snapshot are on the disk.
use Rattle.std.proofs.Common.{◌≡◌, length, ◌∙◌}
use Rattle.std.specs.List.{count_by}
use Rattle.std.proofs.lemmas.List.{length-map}
use Rattle.std.proofs.lemmas.List.Sums.{length-filter}
use Rattle.doc_types.specs.Snapshots.{LayerValue, SnapshotValue}
use Rattle.step_history.specs.Places.{disk_chunks, disk_layers}

pub chunks_counted : (snapshot : SnapshotValue) → length (disk_chunks snapshot) ≡ count_by (λ (layer : LayerValue). layer.disk) snapshot.layers
chunks_counted snapshot = length-map (disk_layers snapshot) (λ (layer : LayerValue). layer.rows) ∙ length-filter (λ (layer : LayerValue). layer.disk) snapshot.layers
