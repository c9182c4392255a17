use Rattle.std.proofs.Common.{ap}
use Rattle.doc_types.specs.Snapshots.{SnapshotValue}
use Rattle.store_reads.proofs.Loads.{snapshot_of}
use Rattle.store_reads.proofs.loading.Loaded.into_snapshot.Goals as goal

pub returns : goal.returns
returns c = λ schema chunks through front loaded.
    snapshot_of schema chunks through front c.args.self _ loaded (ap (λ (s : SnapshotValue). s.layers) c.snapshot.view_is) (ap (λ (s : SnapshotValue). s.shape) c.snapshot.view_is) c.number_of.ensures
