-- Logs: what a file of records stands for, and where a log stands in it.
use Rattle.std.specs.Prelude.{◌≡◌, ◌≢◌, ℕ, ◌+◌, ◌-◌, ◌<◌, ◌^◌, List, [], ◌∷◌, ◌++◌, true, false, Option, Some, None, length, min, All}
use Rattle.std.specs.Option.{option_map}
use Rattle.std.specs.List.{flat_map}
use Rattle.chunk_store.specs.Images.{contents}
use Rattle.gate_log.specs.declared.records.LogRecord.{LogRecord}
use Rattle.gate_log.specs.declared.log.GateLog.{GateLog}
use Rattle.gate_log.specs.Frames.{frame}

-- records behind open gates
abbrev pub spelled : List LogRecord → List ℕ
spelled records = flat_map (λ r. 1 ∷ frame r) records

-- the record has a length and a number that can be written
pub record Fits (r : LogRecord) : Type 0 where
  pub payload : length r.payload < 2 ^ 32
  pub number : r.number < 2 ^ 63

-- each number is one above the one before
abbrev pub AreConsecutive : List LogRecord → Type 0
AreConsecutive [] = Unit {0}
AreConsecutive (r ∷ []) = Unit {0}
AreConsecutive (r ∷ s ∷ rs) = (s.number ≡ r.number + 1) × AreConsecutive (s ∷ rs)

pub record AreRecords (records : List LogRecord) : Type 0 where
  pub fit : All Fits records
  pub numbers : AreConsecutive records

-- The bytes are these records, a closed gate, and anything behind it.
pub record IsLogOf (records : List LogRecord) (bytes : List ℕ) : Type 0 where
  pub records_are : AreRecords records
  pub gate : ℕ
  pub rest : List ℕ
  pub closed : gate ≢ 1
  pub is : bytes ≡ spelled records ++ gate ∷ rest

-- the number of the last record
abbrev pub last_number : List LogRecord → Option ℕ
last_number [] = None
last_number (r ∷ []) = Some r.number
last_number (r ∷ s ∷ rs) = last_number (s ∷ rs)

-- the records with the one that is staged
abbrev pub with_next : List LogRecord → Option LogRecord → List LogRecord
with_next records None = records
with_next records (Some r) = records ++ r ∷ []

-- behind the gate of the last record: anything, or a record and a closed gate
abbrev pub Behind : Option LogRecord → List ℕ → Type 0
Behind None rest = Unit {0}
Behind (Some r) rest = (gate : ℕ) × (more : List ℕ) × (gate ≢ 1) × (rest ≡ frame r ++ gate ∷ more)

-- A file's bytes are as the log left them: with these records, and this one staged.
pub record Stands (log : GateLog) (records : List LogRecord) (next : Option LogRecord) (file : Option (List ℕ)) : Type 0 where
  pub records_are : AreRecords (with_next records next)
  pub end : log.end ≡ length (spelled records)
  pub last : log.last ≡ last_number records
  pub staged : log.staged ≡ option_map (λ r. (r.number, 13 + length r.payload)) next
  pub gate : ℕ
  pub rest : List ℕ
  pub is : contents file ≡ spelled records ++ gate ∷ rest
  pub closed : log.pending ≡ false → gate ≢ 1
  pub behind : Behind next rest

-- the number may follow the last one
abbrev pub MayFollow : Option ℕ → ℕ → Type 0
MayFollow None number = Unit {0}
MayFollow (Some last) number = number ≡ last + 1

-- a log with no record staged
abbrev pub quiet_log : ℕ → ℕ → Option ℕ → GateLog
quiet_log file end last = record { file = file; end = end; last = last; staged = None; pending = false }

-- the log once this record is staged
abbrev pub staging : GateLog → LogRecord → GateLog
staging log r = record log { staged = Some (r.number, 13 + length r.payload) }

-- the log while the gate is being opened
abbrev pub opening : GateLog → GateLog
opening log = record log { pending = true }

-- the log once it is open
abbrev pub opened_by : GateLog → Option (ℕ × ℕ) → GateLog
opened_by log None = log
opened_by log (Some r) = record log { end = min (log.end + r.1) (2 ^ 64 - 1); last = Some r.0; staged = None; pending = false }

abbrev pub opened : GateLog → GateLog
opened log = opened_by log log.staged
