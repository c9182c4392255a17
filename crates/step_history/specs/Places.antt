-- Places: which rows of a snapshot stand in chunks on the disk, and which in memory.
use Rattle.std.specs.Prelude.{◌≡◌, ℕ, List, Bool, true, ◌==◌, not, map, Contains}
use Rattle.std.specs.List.{filter, list_any}
use Rattle.std.specs.FinMap as finite
use Rattle.doc_types.specs.declared.documents.DocRow.{DocRow}
use Rattle.doc_types.specs.Snapshots.{LayerValue, SnapshotValue, all_living, live}

-- the layers whose chunks are on the disk, and those in memory
abbrev pub disk_layers : SnapshotValue → List LayerValue
disk_layers snapshot = filter (λ layer. layer.disk) snapshot.layers

abbrev pub ram_layers : SnapshotValue → List LayerValue
ram_layers snapshot = filter (λ layer. not layer.disk) snapshot.layers

-- the chunks on the disk in their order, each told by its rows
abbrev pub disk_chunks : SnapshotValue → List (List DocRow)
disk_chunks snapshot = map (λ layer. layer.rows) (disk_layers snapshot)

-- the id is live
abbrev pub IsLive : SnapshotValue → ℕ → Type 0
IsLive snapshot id = finite.contains_key (live snapshot) id ≡ true

-- a row of the id lives in a layer on the disk
abbrev pub on_disk : SnapshotValue → ℕ → Bool
on_disk snapshot id = list_any (λ row. row.doc.id == id) (all_living (disk_layers snapshot))

-- the row lives in a layer on the disk
abbrev pub LivesOnDisk : SnapshotValue → DocRow → Type 0
LivesOnDisk snapshot row = Contains (all_living (disk_layers snapshot)) row
