-- Which rows move to a job's chunk, told by their ids, and how a snapshot's layers are taken apart.
use Rattle.std.specs.Prelude.{ℕ, List, [], ◌∷◌, Bool, true, false, ◌==◌, ◌||◌, ◌&&◌, not, if◌then◌else◌, map}
use Rattle.std.specs.List.{filter, flat_map, list_any, enumerate_from}
use Rattle.doc_types.specs.declared.documents.DocRow.{DocRow}
use Rattle.doc_types.specs.Snapshots.{LayerValue, is_dead}
use Rattle.reshape_laws.specs.Rebasing.{is_old, less, lives}
use Rattle.step_history.specs.declared.job.Job.{Job}
use Rattle.step_history.specs.declared.job.Job.TheVariants.{Flush, Optimize}

-- the numbers of the rows that pass
abbrev pub numbers : (ℕ × DocRow → Bool) → List DocRow → List ℕ
numbers passes rows = map (λ e. e.0) (filter passes (enumerate_from 0 rows))

-- a job takes layers on the disk too
abbrev pub takes_disk : Job → Bool
takes_disk Flush = false
takes_disk Optimize = true

-- it takes the layer
abbrev pub takes : Job → LayerValue → Bool
takes job layer = not layer.disk || takes_disk job

-- the row of the layer moves to the job's chunk
abbrev pub moves : Job → ℕ → LayerValue → ℕ × DocRow → Bool
moves job front layer e = not (is_dead layer e.0) && (if layer.disk then takes_disk job else is_old front e.1)

-- the ids of the rows that move, from one layer and from all, and whether one of them is this
abbrev pub moving_ids : Job → ℕ → LayerValue → List ℕ
moving_ids job front layer = map (λ e. e.1.doc.id) (filter (moves job front layer) (enumerate_from 0 layer.rows))

abbrev pub all_moving_ids : Job → ℕ → List LayerValue → List ℕ
all_moving_ids job front layers = flat_map (moving_ids job front) layers

abbrev pub has_moving : Job → ℕ → List LayerValue → ℕ → Bool
has_moving job front layers id = list_any (λ other. other == id) (all_moving_ids job front layers)

-- the id is the first one
abbrev pub begins : List ℕ → ℕ → Bool
begins [] id = false
begins (first ∷ ids) id = first == id

-- the layers in memory without their old rows, where one is left
abbrev pub young_layers : ℕ → List LayerValue → List LayerValue
young_layers front layers = filter lives (map (less (is_old front)) (filter (λ layer. not layer.disk) layers))
