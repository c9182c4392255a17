-- States: the root's state at the end of a job.
use Rattle.std.specs.Prelude.{◌≡◌, ℕ, ◌+◌, ◌≤◌, Result, Ok, Err, List, All, [], ◌∷◌, ◌++◌, Option, Some, None, length}
use Rattle.doc_types.specs.declared.documents.DocRow.{DocRow}
use Rattle.doc_types.specs.declared.schema.Schema.{Schema}
use Rattle.image_parts.specs.Images.{HasZones}
use Rattle.doc_types.specs.Snapshots.{LayerValue, SnapshotValue}
use Rattle.root_slots.specs.declared.state.ChunkEntry.{ChunkEntry}
use Rattle.root_slots.specs.declared.state.RootState.{RootState}
use Rattle.step_history.specs.declared.job.Job.{Job}
use Rattle.step_history.specs.declared.job.Job.TheVariants.{Flush, Optimize}
use Rattle.step_history.specs.Places.{disk_layers}
use Rattle.std.specs.List.Sorted.{IsPermutation}
use Rattle.doc_types.specs.Chunks.{IsContent}
use Rattle.step_history.specs.History.{Base, Step, last_snapshot}
use Rattle.reshape_laws.specs.Rebasing.{rebased, taken}
use Rattle.srch_base.specs.Counts.{Rose}
use Rattle.job_chunks.specs.Chunks.{IsImaged}
use Rattle.job_files.specs.Jobs.{TakesNumbers, log_file}
use Rattle.store_steps.specs.declared.files.Files.{Files}
use Rattle.job_states.specs.declared.finishing.EndFault.{EndFault}
use Rattle.job_states.specs.declared.finishing.EndFault.TheVariants as faults

-- the entries of chunks whose dead rows are those of these layers
abbrev pub with_dead : List ChunkEntry → List LayerValue → List ChunkEntry
with_dead [] layers = []
with_dead (entry ∷ entries) [] = []
with_dead (entry ∷ entries) (layer ∷ layers) = record { file = entry.file; length = entry.length; dead = layer.dead } ∷ with_dead entries layers

-- the chunks that stay
abbrev pub kept_entries : Job → List ChunkEntry → SnapshotValue → List ChunkEntry
kept_entries Flush entries from = with_dead entries (disk_layers from)
kept_entries Optimize entries from = []

-- the one that is new
abbrev pub new_entries : ℕ → Option (List ℕ) → List ChunkEntry
new_entries file None = []
new_entries file (Some bytes) = record { file = file; length = length bytes; dead = [] } ∷ []

-- the state that follows this one, by a job that began over the snapshot, whose chunk has these bytes
abbrev pub job_state : RootState → Job → SnapshotValue → ℕ → Option (List ℕ) → RootState
job_state own job from file chunk = record {
  schema_text = own.schema_text;
  through = from.number;
  next_file = log_file file chunk + 1;
  older = own.newer;
  newer = log_file file chunk;
  chunks = kept_entries job own.chunks from ++ new_entries file chunk;
}

-- The snapshot is the last one of a history with which these steps begin.
pub record HasSeen (base : Base) (steps : List Step) (from : SnapshotValue) : Type 0 where
  pub earlier : List Step
  pub since : List Step
  pub both : steps ≡ earlier ++ since
  pub last_one : last_snapshot base earlier ≡ from

-- A chunk of the rows that the job took, with this image, takes its place among the layers.
pub record IsRebased (schema : Schema) (job : Job) (from now : SnapshotValue) (chunk : Option (List ℕ)) (next : SnapshotValue) : Type 0 where
  pub rows : List DocRow
  pub moved : IsPermutation (taken job from) rows
  pub content : IsContent rows
  pub zones : All HasZones rows
  pub imaged : IsImaged schema rows chunk
  pub is : next ≡ rebased job from.number rows now

-- what the end of a job takes of the numbers of files and roots: none where it was out of memory
abbrev pub TakesSome : Files → Result (Unit {0}) EndFault → Files → Type 0
TakesSome old (Ok done) new = TakesNumbers old new
TakesSome old (Err faults.NoMemory) new = new ≡ old
TakesSome old (Err faults.Disk) new = TakesNumbers old new

-- The count of faults didn't fall, and it rose where the disk failed.
abbrev pub HasEndCause : ℕ → ℕ → Result (Unit {0}) EndFault → Type 0
HasEndCause before now (Ok done) = before ≤ now
HasEndCause before now (Err faults.NoMemory) = before ≤ now
HasEndCause before now (Err faults.Disk) = (before ≤ now) × Rose before now
