-- Snapshots: layers of rows, and the rows of them that live.
use Rattle.std.specs.Prelude.{◌≢◌, ℕ, ◌<◌, ◌^◌, List, Bool, ◌==◌, not, length, map, All, AllPairs}
use Rattle.std.specs.List.{filter, list_any, flat_map, enumerate_from}
use Rattle.doc_types.specs.declared.documents.DocRow.{DocRow}
use Rattle.doc_types.specs.Chunks.{IsContent}
use Rattle.doc_types.specs.Rows.{Rows, rows_of}

-- A layer: the rows of its chunk, whether that is on the disk, and the numbers of the rows that are dead.
pub record LayerValue : Type 0 where
  pub rows : List DocRow
  pub disk : Bool
  pub dead : List ℕ

-- A snapshot: the number of its last commit, how often layers were flushed to a disk or merged there, and the layers.
pub record SnapshotValue : Type 0 where
  pub number : ℕ
  pub shape : ℕ
  pub layers : List LayerValue

-- the row of this number is dead
abbrev pub is_dead : LayerValue → ℕ → Bool
is_dead layer row = list_any (λ dead. dead == row) layer.dead

-- the rows of a layer that live
abbrev pub living : LayerValue → List DocRow
living layer = map (λ e. e.1) (filter (λ e. not (is_dead layer e.0)) (enumerate_from 0 layer.rows))

-- the rows that live, layer by layer
abbrev pub all_living : List LayerValue → List DocRow
all_living layers = flat_map living layers

-- the rows of a snapshot: all that aren't dead, by their ids
abbrev pub live : SnapshotValue → Rows
live snapshot = rows_of (all_living snapshot.layers)

-- the dead rows of a layer are rows of it, ascending
pub record IsLayer (layer : LayerValue) : Type 0 where
  pub content : IsContent layer.rows
  pub ascend : AllPairs (λ row later. row < later) layer.dead
  pub rows : All (λ row. row < length layer.rows) layer.dead

-- no id lives twice, and there are not too many layers and rows
pub record AreLayers (layers : List LayerValue) : Type 0 where
  pub each : All IsLayer layers
  pub distinct : AllPairs (λ row other. row.doc.id ≢ other.doc.id) (all_living layers)
  pub few_layers : length layers < 2 ^ 16
  pub few_rows : length (all_living layers) < 2 ^ 32
