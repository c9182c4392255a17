-- Rebasing: what becomes of a snapshot when a chunk that a job built over an earlier one takes its place among the layers.
use Rattle.std.specs.Prelude.{ℕ, ◌+◌, List, [], ◌∷◌, ◌++◌, Bool, true, ◌==◌, ◌||◌, not, map, length, nat_lt, Contains}
use Rattle.std.specs.List.{filter, list_any, enumerate_from}
use Rattle.doc_types.specs.declared.documents.DocRow.{DocRow}
use Rattle.doc_types.specs.Snapshots.{LayerValue, SnapshotValue, is_dead, living, all_living}
use Rattle.step_history.specs.declared.job.Job.{Job}
use Rattle.step_history.specs.declared.job.Job.TheVariants.{Flush, Optimize}
use Rattle.step_history.specs.Places.{disk_layers, ram_layers}

-- the layers that a job takes, FLUSH those in memory and OPTIMIZE all; and the rows that it makes its chunk of
abbrev pub taken_layers : Job → SnapshotValue → List LayerValue
taken_layers Flush s = ram_layers s
taken_layers Optimize s = s.layers

abbrev pub taken : Job → SnapshotValue → List DocRow
taken job s = all_living (taken_layers job s)

-- the layers on the disk that it leaves
abbrev pub staying : Job → SnapshotValue → List LayerValue
staying Flush s = disk_layers s
staying Optimize s = []

-- the row was put by the commit of this number or before it
abbrev pub is_old : ℕ → DocRow → Bool
is_old front row = not (nat_lt front row.born)

-- The rows of a later snapshot that live in the job's chunk from now on: of those in memory the old ones, since what was put after the
-- snapshot that the job began over isn't in its chunk.
abbrev pub moved : Job → ℕ → SnapshotValue → List DocRow
moved Flush front s = filter (is_old front) (all_living (ram_layers s))
moved Optimize front s = all_living (disk_layers s) ++ filter (is_old front) (all_living (ram_layers s))

-- each of them is a row of the chunk
abbrev pub HasMoved : Job → ℕ → List DocRow → SnapshotValue → Type 0
HasMoved job front new now = (row : DocRow) → Contains (moved job front now) row → Contains new row

-- one of the rows has the id
abbrev pub has_id : List DocRow → ℕ → Bool
has_id rows id = list_any (λ row. row.doc.id == id) rows

-- the layer without those of its rows that pass: they are dead too
abbrev pub less : (DocRow → Bool) → LayerValue → LayerValue
less passes layer = record layer { dead = map (λ e. e.0) (filter (λ e. is_dead layer e.0 || passes e.1) (enumerate_from 0 layer.rows)) }

-- a row of the layer lives
abbrev pub lives : LayerValue → Bool
lives layer = nat_lt 0 (length (living layer))

-- a layer of a new chunk of these rows, in which those of these ids live; there is none where there are no rows
abbrev pub layer_with : List DocRow → List DocRow → LayerValue
layer_with rows live = less (λ row. not (has_id live row.doc.id)) (record { rows = rows; disk = true; dead = [] })

abbrev pub new_layers : List DocRow → List DocRow → List LayerValue
new_layers [] live = []
new_layers (row ∷ rows) live = layer_with (row ∷ rows) live ∷ []

-- The snapshot once a chunk of these rows, which a job made over the snapshot of the number `front`, takes its place: behind the layers
-- on the disk that the job leaves, and before those in memory, of which the young rows stay. Layers in memory in which no row lives are
-- gone.
abbrev pub rebased : Job → ℕ → List DocRow → SnapshotValue → SnapshotValue
rebased job front new now = record {
  number = now.number;
  shape = now.shape + 1;
  layers = (staying job now ++ new_layers new (moved job front now)) ++ filter lives (map (less (is_old front)) (ram_layers now));
}

-- one chunk of the rows, or none where there are none
abbrev pub some_chunk : List DocRow → List (List DocRow)
some_chunk [] = []
some_chunk (row ∷ rows) = (row ∷ rows) ∷ []
