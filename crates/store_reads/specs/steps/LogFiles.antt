-- What was read of the files of logs.
use Rattle.std.specs.Prelude.{◌≡◌, ◌⊎◌, ℕ, zero, suc, List, [], ◌++◌, Option, Some, Result, Ok, Err, length}
use Rattle.chunk_store.specs.Images.{Image, Told, contents}
use Rattle.doc_types.specs.declared.schema.Schema.{Schema}
use Rattle.doc_types.specs.Snapshots.{LayerValue}
use Rattle.gate_log.specs.Logs.{AreRecords, IsLogOf, spelled}
use Rattle.gate_log.specs.Reading.{Begins}
use Rattle.gate_log.specs.declared.reading.Before.TheVariants.{Chunks}
use Rattle.gate_log.specs.declared.records.LogRecord.{LogRecord}
use Rattle.root_slots.specs.declared.state.RootState.{RootState}
use Rattle.store_steps.specs.Damage.{IsBadLog, IsBadNewer, IsBadOlder}
use Rattle.store_reads.specs.declared.fault.StoreFault.{StoreFault}
use Rattle.store_reads.specs.declared.fault.StoreFault.TheVariants as faults
use Rattle.store_reads.specs.declared.loading.Loaded.{Loaded}
use Rattle.store_reads.specs.declared.loading.LogEnd.{LogEnd}
use Rattle.store_reads.specs.declared.logs.Logs.{Logs}
use Rattle.store_reads.specs.steps.Loads.{IsLoaded, IsLogRead, TakesLog, before_next}

-- what reading a log's file comes to, behind these records
abbrev pub ReadsLog : Schema → List LayerValue → ℕ → List LogRecord → ℕ → Option Image → Result LogEnd StoreFault → Loaded → Type 0
ReadsLog schema chunks through front file told (Ok found) new = (bytes : List ℕ) × Told (λ image. image file ≡ Some bytes) told × TakesLog schema chunks through front file bytes (Ok found) new
ReadsLog schema chunks through front file told (Err faults.NoMemory) new = Unit {0}
ReadsLog schema chunks through front file told (Err faults.DiskFault) new = Unit {0}
ReadsLog schema chunks through front file told (Err (faults.Damaged damage)) new = (damage.file ≡ file) × Told (λ image. IsBadLog schema (before_next through front) damage.kind damage.place (image file)) told

-- The older log has these records, where there is one.
abbrev pub HasOlder : ℕ → List LogRecord → Image → Type 0
HasOlder zero records image = records ≡ []
HasOlder (suc file) records image = IsLogOf records (contents (image (suc file)))

-- The records of the older log were taken.
pub record IsOlderRead (schema : Schema) (chunks : List LayerValue) (through file : ℕ) (told : Option Image) (end : ℕ) (new : Loaded) : Type 0 where
  pub records : List LogRecord
  pub records_are : AreRecords records
  pub begins : Begins (Chunks through) records
  pub has : Told (λ image. HasOlder file records image) told
  pub ends : end ≡ length (spelled records)
  pub loaded : IsLoaded schema chunks through records new

-- what reading the older log comes to
abbrev pub ReadsOlder : Schema → List LayerValue → RootState → Option Image → Result ℕ StoreFault → Loaded → Type 0
ReadsOlder schema chunks state told (Ok end) new = IsOlderRead schema chunks state.through state.older told end new
ReadsOlder schema chunks state told (Err faults.NoMemory) new = Unit {0}
ReadsOlder schema chunks state told (Err faults.DiskFault) new = Unit {0}
ReadsOlder schema chunks state told (Err (faults.Damaged damage)) new = Told (λ image. IsBadOlder schema state image damage) told

-- Both logs of a root were read.
pub record AreRead (schema : Schema) (chunks : List LayerValue) (state : RootState) (told : Option Image) (logs : Logs) : Type 0 where
  pub older : List LogRecord
  pub older_are : AreRecords older
  pub older_ends : logs.older_end ≡ length (spelled older)
  pub begins : Begins (Chunks state.through) older
  pub has : Told (λ image. HasOlder state.older older image) told
  pub newer : List LogRecord
  pub bytes : List ℕ
  pub bytes_are : Told (λ image. image state.newer ≡ Some bytes) told
  pub newer_is : IsLogRead schema (before_next state.through older) newer bytes logs.end
  pub loaded : IsLoaded schema chunks state.through (older ++ newer) logs.loaded

-- what reading both logs comes to
abbrev pub ReadsLogs : Schema → List LayerValue → RootState → Option Image → Result Logs StoreFault → Type 0
ReadsLogs schema chunks state told (Ok logs) = AreRead schema chunks state told logs
ReadsLogs schema chunks state told (Err faults.NoMemory) = Unit {0}
ReadsLogs schema chunks state told (Err faults.DiskFault) = Unit {0}
ReadsLogs schema chunks state told (Err (faults.Damaged damage)) = Told (λ image. IsBadOlder schema state image damage ⊎ IsBadNewer schema state image damage) told
