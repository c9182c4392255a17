-- Reading: what the files of an index hold, as they are read.
use Rattle.std.specs.Prelude.{◌≡◌, ℕ, ◌≤◌, List, [], Option, Some, None, Result, Ok, Err, length, map, nat_lt, not}
use Rattle.std.specs.Arc.{arc_value}
use Rattle.std.specs.FinMap as finite
use Rattle.srch_base.specs.Counts.{Rose}
use Rattle.chunk_store.specs.Images.{Image, Told}
use Rattle.doc_types.specs.declared.documents.DocRow.{DocRow}
use Rattle.doc_types.specs.declared.schema.Schema.{Schema}
use Rattle.doc_types.specs.Snapshots.{SnapshotValue, live}
use Rattle.gate_log.specs.declared.log.GateLog.{GateLog}
use Rattle.gate_log.specs.Logs.{last_number, quiet_log, spelled}
use Rattle.root_slots.specs.Openings.{Opens}
use Rattle.root_slots.specs.Slots.{slots_of}
use Rattle.root_slots.specs.declared.root.Root.{Root}
use Rattle.root_slots.specs.declared.state.RootState.{RootState}
use Rattle.step_history.specs.History.{AreOf}
use Rattle.step_history.specs.Places.{disk_chunks, on_disk}
use Rattle.store_steps.specs.Batches.{Batch, record_of}
use Rattle.store_steps.specs.Damage.{IsBadSlot, IsDamaged}
use Rattle.store_steps.specs.Directory.{Directory, Holds, IsInOrder, Reaches, number_in, rows_in, taken, through_in}
use Rattle.store_steps.specs.Doubts.{sure_files}
use Rattle.store_steps.specs.Kept.{IsImage, Says}
use Rattle.store_steps.specs.declared.damage.TheConstants.{MOST_OPENED_CHUNKS}
use Rattle.store_reads.specs.declared.fault.StoreFault.{StoreFault}
use Rattle.store_reads.specs.declared.fault.StoreFault.TheVariants as faults
use Rattle.store_reads.specs.declared.found.Found.{Found}

-- the commits that the chunks don't have
abbrev pub taken_in : Option Directory → List Batch
taken_in None = []
taken_in (Some dir) = taken dir

-- the rows of each chunk
abbrev pub chunks_in : Option Directory → List (List DocRow)
chunks_in None = []
chunks_in (Some dir) = dir.chunks

-- The snapshot is what the image stands for: its rows by the number of the last commit. A row lives on the disk exactly where the
-- chunks have it, the chunks on the disk are those of the files, no more than are opened, and so many records of logs were read that
-- they don't have.
pub record IsFoundIn (schema : Schema) (snapshot : SnapshotValue) (records : ℕ) (x : Image) : Type 0 where
  pub found : Option Directory
  pub holds : Holds schema found x
  pub rows : rows_in found ≡ live snapshot
  pub number : number_in found ≡ snapshot.number
  pub places : (id : ℕ) (row : DocRow) → finite.get (live snapshot) id ≡ Some row → on_disk snapshot id ≡ not (nat_lt (through_in found) row.born)
  pub chunks : chunks_in found ≡ disk_chunks snapshot
  pub few : length (chunks_in found) ≤ MOST_OPENED_CHUNKS
  pub records_are : records ≡ length (taken_in found)

-- the log that grows, as its bytes have it
abbrev pub log_in : Directory → GateLog
log_in dir = quiet_log dir.state.newer (length (spelled (map record_of dir.newer))) (last_number (map record_of dir.newer))

-- The files that a root with this state names hold a directory, which the snapshot says; its chunks are on the disk, and what its
-- logs have besides is in memory.
pub record IsDirectory (schema : Schema) (root : Root) (state : RootState) (told : Option Image) (found : Found) : Type 0 where
  pub dir : Directory
  pub state_is : dir.state ≡ state
  pub in_order : IsInOrder schema dir
  pub reaches : Reaches dir
  pub image : Told (IsImage schema dir root.number None root (log_in dir) None) told
  pub files_are : found.files ≡ sure_files root state (log_in dir)
  pub says : Says dir (arc_value found.snapshot)
  pub places : (id : ℕ) (row : DocRow) → finite.get (live (arc_value found.snapshot)) id ≡ Some row → on_disk (arc_value found.snapshot) id ≡ not (nat_lt state.through row.born)
  pub few : length dir.chunks ≤ MOST_OPENED_CHUNKS
  pub records_are : found.records ≡ length (taken dir)
  pub documents_are : found.documents ≡ finite.len (live (arc_value found.snapshot))
  pub shape : (arc_value found.snapshot).shape ≡ 0
  pub of : AreOf schema (arc_value found.snapshot)

-- A count of faults didn't fall, and it rose where the answer is that the disk failed.
abbrev pub HasStoreCause : {T : Type 0} → ℕ → ℕ → Result T StoreFault → Type 0
HasStoreCause before now (Ok value) = before ≤ now
HasStoreCause before now (Err faults.DiskFault) = (before ≤ now) × Rose before now
HasStoreCause before now (Err fault) = before ≤ now

-- What a refusal says of the files.
abbrev pub SaysDamage : Schema → Option Image → StoreFault → Type 0
SaysDamage schema told faults.NoMemory = Unit {0}
SaysDamage schema told faults.DiskFault = Unit {0}
SaysDamage schema told (faults.Damaged damage) = Told (λ image. IsDamaged schema image damage) told

-- what reading the root comes to
abbrev pub ReadsSlots : Option Image → Result (Root × Option RootState) StoreFault → Type 0
ReadsSlots told (Ok found) = Told (λ image. Opens found.0 found.1 (slots_of image)) told
ReadsSlots told (Err faults.NoMemory) = Unit {0}
ReadsSlots told (Err faults.DiskFault) = Unit {0}
ReadsSlots told (Err (faults.Damaged damage)) = Told (λ image. IsBadSlot image damage) told

-- what reading what it names comes to
abbrev pub ReadsDirectory : Schema → Root → RootState → Option Image → Result Found StoreFault → Type 0
ReadsDirectory schema root state told (Ok found) = IsDirectory schema root state told found
ReadsDirectory schema root state told (Err fault) = SaysDamage schema told fault
