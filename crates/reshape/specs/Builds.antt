-- Builds: the chunk that a job makes, as bytes and as a layer.
use Rattle.std.specs.Prelude.{◌≡◌, ℕ, ◌<◌, List, [], true, Option, Some, None, Vec, length}
use Rattle.std.specs.declared.alloc.Global.{Global}
use Rattle.doc_types.specs.declared.documents.DocRow.{DocRow}
use Rattle.doc_types.specs.Snapshots.{IsLayer, LayerValue, SnapshotValue}
use Rattle.image_join.specs.JoinedImages.{IsJoinedImage}
use Rattle.reshape_laws.specs.Rebasing.{taken}
use Rattle.step_history.specs.declared.job.Job.{Job}

-- there is no row, or the bytes are the image of these rows by ascending id
abbrev pub IsImage : List DocRow → Option (Vec ℕ Global) → Type 0
IsImage rows None = rows ≡ []
IsImage rows (Some bytes) = (0 < length rows) × IsJoinedImage rows bytes.items

-- what a job makes of a snapshot: the image of the rows that it takes, or nothing where there are none
abbrev pub IsBuilt : Job → SnapshotValue → Option (Vec ℕ Global) → Type 0
IsBuilt job snapshot built = IsImage (taken job snapshot) built

-- a job's chunk as a layer, if it made one, and its rows
abbrev pub new_rows : Option LayerValue → List DocRow
new_rows None = []
new_rows (Some layer) = layer.rows

-- it is on the disk, has rows, and none of them is dead
abbrev pub IsNew : Option LayerValue → Type 0
IsNew None = Unit {0}
IsNew (Some layer) = (layer.disk ≡ true) × (layer.dead ≡ []) × (0 < length layer.rows) × IsLayer layer
