-- What was read of logs: their records, and the layers of these.
use Rattle.std.specs.Prelude.{◌≡◌, ◌≢◌, ℕ, List, ◌∷◌, ◌++◌, Option, Some, None, Result, Ok, Err, All, length, map, nat_lt, not}
use Rattle.std.specs.FinMap as finite
use Rattle.doc_types.specs.declared.documents.DocRow.{DocRow}
use Rattle.doc_types.specs.declared.schema.Schema.{Schema}
use Rattle.doc_types.specs.Snapshots.{LayerValue, SnapshotValue, live}
use Rattle.step_history.specs.History.{AreOf}
use Rattle.step_history.specs.Places.{disk_chunks, on_disk}
use Rattle.gate_log.specs.Logs.{AreRecords, last_number, spelled}
use Rattle.gate_log.specs.Reading.{Begins, behind}
use Rattle.gate_log.specs.declared.fault.LogKind.{LogKind}
use Rattle.gate_log.specs.declared.fault.LogKind.TheVariants as logs
use Rattle.gate_log.specs.declared.reading.Before.{Before}
use Rattle.gate_log.specs.declared.reading.Before.TheVariants.{Chunks}
use Rattle.gate_log.specs.declared.records.LogRecord.{LogRecord}
use Rattle.store_steps.specs.Batches.{Batch}
use Rattle.store_steps.specs.Damage.{IsBadBehind}
use Rattle.store_steps.specs.declared.damage.Damage.{Damage}
use Rattle.store_steps.specs.declared.damage.DamageKind.{DamageKind}
use Rattle.store_steps.specs.declared.damage.DamageKind.TheVariants as kinds
use Rattle.store_reads.specs.declared.fault.StoreFault.{StoreFault}
use Rattle.store_reads.specs.declared.fault.StoreFault.TheVariants as faults
use Rattle.store_reads.specs.declared.loading.Loaded.{Loaded}
use Rattle.store_reads.specs.declared.loading.LogEnd.{LogEnd}
use Rattle.store_reads.specs.steps.Pieces.{IsLaidOf}
use Rattle.store_reads.specs.steps.Records.{IsRead, rows_after}

-- These records were taken, over these chunks.
pub record IsLoaded (schema : Schema) (chunks : List LayerValue) (through : ℕ) (records : List LogRecord) (loaded : Loaded) : Type 0 where
  pub of : IsLaidOf schema chunks through records loaded.laid
  pub through_is : loaded.through ≡ through
  pub last_is : loaded.last ≡ last_number records

-- the number of the last commit: that of the last record, or else the last one that the chunks have
abbrev pub number_after : ℕ → Option ℕ → ℕ
number_after through None = through
number_after through (Some last) = last

-- The snapshot of what was taken of these records over these chunks: the chunks are on the disk, and all that they don't have is in
-- memory.
pub record IsSnapshotOf (schema : Schema) (chunks : List LayerValue) (through : ℕ) (records : List LogRecord) (snapshot : SnapshotValue) : Type 0 where
  pub number_is : snapshot.number ≡ number_after through (last_number records)
  pub shape_is : snapshot.shape ≡ 0
  pub rows_are : live snapshot ≡ rows_after schema chunks through records
  pub chunks_are : disk_chunks snapshot ≡ map (λ layer. layer.rows) chunks
  pub places : (id : ℕ) (row : DocRow) → finite.get (live snapshot) id ≡ Some row → on_disk snapshot id ≡ not (nat_lt through row.born)
  pub of : AreOf schema snapshot

-- what comes before the record behind these
abbrev pub before_next : ℕ → List LogRecord → Before
before_next through records = behind (Chunks through) (last_number records)

-- The bytes are these records, each of which was read, and a closed gate.
pub record IsLogRead (schema : Schema) (before : Before) (records : List LogRecord) (bytes : List ℕ) (found : LogEnd) : Type 0 where
  pub records_are : AreRecords records
  pub begins : Begins before records
  pub all : All (IsRead schema) records
  pub gate : ℕ
  pub rest : List ℕ
  pub closed : gate ≢ 1
  pub is : bytes ≡ spelled records ++ gate ∷ rest
  pub end_is : found.end ≡ length (spelled records)
  pub last_is : found.last ≡ last_number records

-- what is wrong behind records, among the damage of an index
abbrev pub kind_of : LogKind → DamageKind
kind_of logs.Missing = kinds.LogMissing
kind_of logs.Length = kinds.RecordLength
kind_of logs.Number = kinds.RecordNumber

abbrev pub bad_record : ℕ → ℕ → LogKind → Damage
bad_record file place kind = record { file = file; place = place; kind = kind_of kind }

-- The answer isn't that the disk failed.
abbrev pub IsOfBytes : {T : Type 0} → Result T StoreFault → Type 0
IsOfBytes (Ok value) = Unit {0}
IsOfBytes (Err faults.NoMemory) = Unit {0}
IsOfBytes (Err faults.DiskFault) = ⊥
IsOfBytes (Err (faults.Damaged damage)) = Unit {0}

-- what taking the bytes of a log comes to, behind these records
abbrev pub TakesLog : Schema → List LayerValue → ℕ → List LogRecord → ℕ → List ℕ → Result LogEnd StoreFault → Loaded → Type 0
TakesLog schema chunks through front file bytes (Ok found) new = (records : List LogRecord) × IsLogRead schema (before_next through front) records bytes found × IsLoaded schema chunks through (front ++ records) new
TakesLog schema chunks through front file bytes (Err faults.NoMemory) new = Unit {0}
TakesLog schema chunks through front file bytes (Err faults.DiskFault) new = ⊥
TakesLog schema chunks through front file bytes (Err (faults.Damaged damage)) new = (damage.file ≡ file) × ((batches : List Batch) × IsBadBehind schema (before_next through front) damage.kind damage.place batches bytes)
