-- What reading the chunks of a root comes to.
use Rattle.std.specs.Prelude.{◌≡◌, ◌≢◌, ◌⊎◌, ℕ, ◌≤◌, List, Option, Vec, Result, Ok, Err, AllPairs}
use Rattle.std.specs.declared.alloc.Global.{Global}
use Rattle.std.specs.List.{AllZip}
use Rattle.srch_base.specs.Counts.{Rose}
use Rattle.srch_base.specs.declared.faults.Or.{Or}
use Rattle.srch_base.specs.declared.faults.Or.TheVariants as causes
use Rattle.chunk_store.specs.Images.{Image, Told}
use Rattle.doc_types.specs.declared.documents.DocRow.{DocRow}
use Rattle.doc_types.specs.declared.schema.Schema.{Schema}
use Rattle.doc_types.specs.Snapshots.{LayerValue, all_living}
use Rattle.root_slots.specs.declared.state.RootState.{RootState}
use Rattle.store_steps.specs.Damage.{AreBadChunks, HasIdTwice}
use Rattle.store_steps.specs.Directory.{IsChunkFile, IsChunkOf, layers_from}
use Rattle.chunk_files.specs.declared.fault.ChunkFault.{ChunkFault}
use Rattle.chunk_files.specs.declared.fault.ChunkFault.TheVariants as faults

-- The layers are those of a root's chunks: of the rows whose images their files are, without the rows that are dead, and no id lives
-- in two of them.
pub record AreRead (schema : Schema) (state : RootState) (told : Option Image) (layers : List LayerValue) : Type 0 where
  pub chunks : List (List DocRow)
  pub are : layers ≡ layers_from state.chunks chunks
  pub rows : AllZip (IsChunkOf schema state.through) state.chunks chunks
  pub files : Told (λ x. AllZip (IsChunkFile schema x) state.chunks chunks) told
  pub once : AllPairs (λ row other. row.doc.id ≢ other.doc.id) (all_living (layers_from state.chunks chunks))

-- what reading them comes to
abbrev pub ReadsChunks : Schema → RootState → Option Image → Result (Vec LayerValue Global) (Or ChunkFault) → Type 0
ReadsChunks schema state told (Ok layers) = AreRead schema state told layers.items
ReadsChunks schema state told (Err causes.NoMemory) = Unit {0}
ReadsChunks schema state told (Err (causes.Fault faults.Failed)) = Unit {0}
ReadsChunks schema state told (Err (causes.Fault (faults.Damaged damage))) = Told (λ x. AreBadChunks schema state.through x damage state.chunks ⊎ HasIdTwice schema state x damage) told

-- A count of faults didn't fall, and it rose where the answer is that the disk failed.
abbrev pub HasChunkCause : {T : Type 0} → ℕ → ℕ → Result T (Or ChunkFault) → Type 0
HasChunkCause before now (Ok value) = before ≤ now
HasChunkCause before now (Err (causes.Fault faults.Failed)) = (before ≤ now) × Rose before now
HasChunkCause before now (Err fault) = before ≤ now
