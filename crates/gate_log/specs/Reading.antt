-- What a log is read as: its records, and what is wrong behind them, if anything is.
use Rattle.std.specs.Prelude.{◌≡◌, ◌≢◌, ◌⊎◌, ℕ, ◌+◌, ◌<◌, ◌≤◌, ◌^◌, List, [], ◌∷◌, ◌++◌, length, map, take, false, Vec, Option, Some, None, Result, Ok, Err}
use Rattle.std.specs.declared.alloc.Global.{Global}
use Rattle.srch_base.specs.Counts.{Rose}
use Rattle.gate_log.specs.Frames.{frame}
use Rattle.gate_log.specs.Logs.{AreRecords, Stands, last_number, quiet_log, spelled}
use Rattle.gate_log.specs.declared.log.GateLog.{GateLog}
use Rattle.gate_log.specs.declared.reading.Before.{Before}
use Rattle.gate_log.specs.declared.reading.Before.TheVariants as befores
use Rattle.gate_log.specs.declared.reading.LogRead.{LogRead}
use Rattle.gate_log.specs.declared.reading.RecordAt.{RecordAt}
use Rattle.gate_log.specs.declared.records.LogRecord.{LogRecord}
use Rattle.gate_log.specs.declared.fault.LogFault.{LogFault}
use Rattle.gate_log.specs.declared.fault.LogFault.TheVariants as faults
use Rattle.gate_log.specs.declared.fault.LogKind.{LogKind}
use Rattle.gate_log.specs.declared.fault.LogKind.TheVariants as kinds

-- A record with this number may come next.
abbrev pub MayCome : Before → ℕ → Type 0
MayCome befores.Anything number = Unit {0}
MayCome (befores.Record last) number = number ≡ last + 1
MayCome (befores.Chunks through) number = number ≤ through + 1

-- what comes before the record behind the last one of these
abbrev pub behind : Before → Option ℕ → Before
behind before None = before
behind before (Some last) = befores.Record last

-- The first record, if there is one, may come next.
abbrev pub Begins : Before → List LogRecord → Type 0
Begins before [] = Unit {0}
Begins before (r ∷ rs) = MayCome before r.number

-- No gate stands here, or an open one behind which no record with its gate stands.
abbrev pub IsCut : List ℕ → Type 0
IsCut rest = (rest ≡ []) ⊎ ((more : List ℕ) × (rest ≡ 1 ∷ more) × ((r : LogRecord) (after : List ℕ) → length r.payload < 2 ^ 32 → 0 < length after → more ≡ frame r ++ after → ⊥))

-- An open gate stands here, and behind it a record with its gate, whose number may not come next.
pub record IsMisnumbered (before : Before) (rest : List ℕ) : Type 0 where
  pub record_is : LogRecord
  pub after : List ℕ
  pub short : length record_is.payload < 2 ^ 32
  pub number : record_is.number < 2 ^ 64
  pub gate : 0 < length after
  pub is : rest ≡ 1 ∷ (frame record_is ++ after)
  pub wrong : record_is.number < 2 ^ 63 → MayCome before record_is.number → ⊥

-- what is wrong here
abbrev pub IsWrong : LogKind → Before → List ℕ → Type 0
IsWrong kinds.Missing before rest = ⊥
IsWrong kinds.Length before rest = IsCut rest
IsWrong kinds.Number before rest = IsMisnumbered before rest

-- A closed gate stands here, and anything behind it.
pub record IsClosed (rest : List ℕ) : Type 0 where
  pub gate : ℕ
  pub more : List ℕ
  pub closed : gate ≢ 1
  pub is : rest ≡ gate ∷ more

-- how records end: by a closed gate, or by what is wrong
abbrev pub Ends : Option LogKind → Before → List ℕ → Type 0
Ends None before rest = IsClosed rest
Ends (Some kind) before rest = IsWrong kind before rest

-- a record that was read
abbrev pub record_of : RecordAt → LogRecord
record_of r = record { number = r.number; payload = r.payload.now }

-- Each record has the place of its gate, from this one on.
abbrev pub ArePlaced : ℕ → List RecordAt → Type 0
ArePlaced at [] = Unit {0}
ArePlaced at (r ∷ rs) = (r.place ≡ at) × ArePlaced (at + (13 + length r.payload.now)) rs

-- what the bytes of a log are read as
pub record IsReadAs (before : Before) (bytes : List ℕ) (read : LogRead) : Type 0 where
  pub records_are : AreRecords (map record_of read.records.items)
  pub begins : Begins before (map record_of read.records.items)
  pub placed : ArePlaced 0 read.records.items
  pub rest : List ℕ
  pub is : bytes ≡ spelled (map record_of read.records.items) ++ rest
  -- a gate stands behind each record
  pub gated : 0 < length read.records.items → 0 < length rest
  pub end : read.end ≡ length (spelled (map record_of read.records.items))
  pub last : read.last ≡ last_number (map record_of read.records.items)
  pub ends : Ends read.fault (behind before read.last) rest

-- Two readings give the same records at the same places, and the same of what stands behind them.
pub record AreAlike (a b : LogRead) : Type 0 where
  pub records : map record_of a.records.items ≡ map record_of b.records.items
  pub places : map (λ (r : RecordAt). r.place) a.records.items ≡ map (λ (r : RecordAt). r.place) b.records.items
  pub end : a.end ≡ b.end
  pub last : a.last ≡ b.last
  pub fault : a.fault ≡ b.fault

-- The bytes are records as far as this place, and there they are wrong.
pub record IsBadAt (kind : LogKind) (place : ℕ) (bytes : List ℕ) : Type 0 where
  pub records : List LogRecord
  pub rest : List ℕ
  pub records_are : AreRecords records
  pub is : bytes ≡ spelled records ++ rest
  -- a gate stands behind each record
  pub gated : 0 < length records → 0 < length rest
  pub place_is : place ≡ length (spelled records)
  pub wrong : IsWrong kind (behind befores.Anything (last_number records)) rest

-- The front of a file, or it isn't there.
abbrev pub FindsFront : ℕ → Option (Vec ℕ Global) → Option (List ℕ) → Type 0
FindsFront most None file = file ≡ None
FindsFront most (Some bytes) file = (whole : List ℕ) × (file ≡ Some whole) × (bytes.items ≡ take most whole)

-- The marks of a log behind these records: its end, and the number of the last one.
pub record Marks (number : ℕ) (log : GateLog) (records : List LogRecord) : Type 0 where
  pub records_are : AreRecords records
  pub log_is : log ≡ quiet_log number (length (spelled records)) (last_number records)

-- The file is a log with these records, none of them staged.
pub record Opens (number : ℕ) (log : GateLog) (records : List LogRecord) (file : Option (List ℕ)) : Type 0 where
  pub stands : Stands log records None file
  pub number_is : log.file ≡ number
  pub quiet : log.pending ≡ false

-- what is wrong with a file: it isn't there, or its bytes are no log
abbrev pub IsBadFile : LogKind → ℕ → Option (List ℕ) → Type 0
IsBadFile kind place None = (kind ≡ kinds.Missing) × (place ≡ 0)
IsBadFile kind place (Some bytes) = IsBadAt kind place bytes

-- what reading the file of a log answers
abbrev pub ReadsFile : ℕ → Result (GateLog × Vec LogRecord Global) LogFault → Option (List ℕ) → Type 0
ReadsFile number (Ok found) file = Opens number found.0 found.1.items file
ReadsFile number (Err faults.NoMemory) file = Unit {0}
ReadsFile number (Err faults.DiskFault) file = Unit {0}
ReadsFile number (Err (faults.BadLog place kind)) file = IsBadFile kind place file

-- A count of faults didn't fall, and it rose where the answer is that the disk failed.
abbrev pub HasLogCause : {T : Type 0} → ℕ → ℕ → Result T LogFault → Type 0
HasLogCause before now (Ok value) = before ≤ now
HasLogCause before now (Err faults.DiskFault) = (before ≤ now) × Rose before now
HasLogCause before now (Err fault) = before ≤ now
