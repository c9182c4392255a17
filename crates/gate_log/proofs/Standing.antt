-- What a file gives that stands as a log left it.
use Rattle.std.proofs.Common.{◌≡◌, ◌⊎◌, inl, inr, ℕ, List, [], ◌∷◌, ◌++◌, false, Option, Some, None, refl, sym, ◌∙◌, ap, subst}
use Rattle.std.proofs.lemmas.Bool.{cases_eq}
use Rattle.std.proofs.lemmas.List.Elements.{All-nil, All-cons, All-head, All-tail}
use Rattle.std.specs.List.{All}
use Rattle.chunk_store.specs.Images.{contents}
use Rattle.gate_log.specs.declared.records.LogRecord.{LogRecord}
use Rattle.gate_log.specs.declared.log.GateLog.{GateLog}
use Rattle.gate_log.specs.Logs.{Stands, IsLogOf, AreRecords, AreConsecutive, Fits, quiet_log, spelled}
use Rattle.gate_log.proofs.OneMore.{spelled-push}
use Rattle.std.proofs.Common.{Vec, Result, Ok, Err, ◌≤◌, length, map, take, drop, append_assoc, arith, take-append-drop}
use Rattle.std.proofs.lemmas.List.{length-map, take_all}
use Rattle.std.specs.declared.alloc.Global.{Global}
use Rattle.chunk_store.specs.Calls.{Finds}
use Rattle.gate_log.specs.steps.Parts.{IsOfBytes}
use Rattle.gate_log.specs.Reading.{Ends, HasLogCause, IsBadAt, IsBadFile, IsClosed, IsReadAs, IsWrong, Opens, ReadsFile, behind, record_of}
use Rattle.gate_log.specs.declared.fault.LogFault.{LogFault}
use Rattle.gate_log.specs.declared.fault.LogFault.TheVariants as faults
use Rattle.gate_log.specs.declared.reading.Before.{Before}
use Rattle.gate_log.specs.declared.reading.Before.TheVariants as befores
use Rattle.gate_log.specs.declared.reading.LogRead.{LogRead}
use Rattle.gate_log.specs.declared.fault.LogKind.{LogKind}
use Rattle.gate_log.specs.declared.fault.LogKind.TheVariants as kinds

consecutive-front : (records : List LogRecord) (r : LogRecord) → AreConsecutive (records ++ r ∷ []) → AreConsecutive records
consecutive-front [] r all = tt
consecutive-front (a ∷ []) r all = tt
consecutive-front (a ∷ b ∷ records) r all = (all.0, consecutive-front (b ∷ records) r all.1)

all-front : (records : List LogRecord) (r : LogRecord) → All Fits (records ++ r ∷ []) → All Fits records
all-front [] r all = All-nil Fits
all-front (a ∷ records) r all = All-cons Fits a records (All-head Fits a (records ++ r ∷ []) all) (all-front records r (All-tail Fits a (records ++ r ∷ []) all))

records-front : (records : List LogRecord) (r : LogRecord) → AreRecords (records ++ r ∷ []) → AreRecords records
records-front records r all = record { fit = all-front records r all.fit; numbers = consecutive-front records r all.numbers }

-- no gate is being opened: the records
pub gives_records : (log : GateLog) (records : List LogRecord) (file : Option (List ℕ)) → log.pending ≡ false → Stands log records None file → IsLogOf records (contents file)
gives_records log records file quiet stands = record { records_are = stands.records_are; gate = stands.gate; rest = stands.rest; closed = stands.closed quiet; is = stands.is }

-- the records, or these and the one that is staged
pub gives_either : (log : GateLog) (records : List LogRecord) (r : LogRecord) (file : Option (List ℕ)) → Stands log records (Some r) file → IsLogOf records (contents file) ⊎ IsLogOf (records ++ r ∷ []) (contents file)
gives_either log records r file stands = elim (cases_eq stands.gate 1) [
  | inl opened ↦
      let behind = stands.behind in
      let more : List ℕ = behind.0 ∷ behind.1 in
      let is : contents file ≡ spelled (records ++ r ∷ []) ++ more = stands.is ∙ ap (λ (g : ℕ). spelled records ++ g ∷ stands.rest) opened ∙ ap (λ (l : List ℕ). spelled records ++ 1 ∷ l) behind.3 ∙ sym (spelled-push records r more) in
      inr (record { records_are = stands.records_are; gate = behind.0; rest = behind.1; closed = behind.2; is = is })
  | inr shut ↦ inl (record { records_are = records-front records r stands.records_are; gate = stands.gate; rest = stands.rest; closed = shut; is = stands.is })
]

-- a log as it was read stands in its file, also where only the file's front was read
pub read_stands : (before : Before) (read : LogRead) (file most : ℕ) (whole : List ℕ) → IsReadAs before (take most whole) read → read.fault ≡ None → Stands (quiet_log file read.end read.last) (map record_of read.records.items) None (Some whole)
read_stands before read file most whole found none =
    let records = map record_of read.records.items in
    let closed : IsClosed found.rest = subst (λ (f : Option LogKind). Ends f (behind before read.last) found.rest) none found.ends in
    let front : take most whole ≡ spelled records ++ closed.gate ∷ closed.more = found.is ∙ ap (λ (l : List ℕ). spelled records ++ l) closed.is in
    record {
      records_are = found.records_are;
      end = found.end;
      last = found.last;
      staged = refl;
      gate = closed.gate;
      rest = closed.more ++ drop most whole;
      is = sym (take-append-drop most whole) ∙ ap (λ (l : List ℕ). l ++ drop most whole) front ∙ append_assoc (spelled records) (closed.gate ∷ closed.more) (drop most whole);
      closed = λ quiet. closed.closed;
      behind = tt;
    }

pub opens : (number : ℕ) (read : LogRead) (bytes : List ℕ) → IsReadAs befores.Anything bytes read → read.fault ≡ None → (log : GateLog) → log ≡ quiet_log number read.end read.last → (records : List LogRecord) → records ≡ map record_of read.records.items
    → Opens number log records (Some bytes)
opens number read bytes found none log is records same =
    let whole : IsReadAs befores.Anything (take (length bytes) bytes) read = subst (λ (l : List ℕ). IsReadAs befores.Anything l read) (sym (take_all (length bytes) bytes (omega arith))) found in
    let stands : Stands (quiet_log number read.end read.last) (map record_of read.records.items) None (Some bytes) = read_stands befores.Anything read number (length bytes) bytes whole none in
    record {
      stands = subst (λ (rs : List LogRecord). Stands log rs None (Some bytes)) (sym same) (subst (λ (l : GateLog). Stands l (map record_of read.records.items) None (Some bytes)) (sym is) stands);
      number_is = ap (λ (l : GateLog). l.file) is;
      quiet = ap (λ (l : GateLog). l.pending) is;
    }

-- what is wrong behind the records
pub bad_at : (read : LogRead) (kind : LogKind) (bytes : List ℕ) → IsReadAs befores.Anything bytes read → read.fault ≡ Some kind → IsBadAt kind read.end bytes
bad_at read kind bytes found is = record {
  records = map record_of read.records.items;
  rest = found.rest;
  records_are = found.records_are;
  is = found.is;
  gated = λ some. found.gated (omega (arith, some, length-map {B = LogRecord} read.records.items record_of));
  place_is = found.end;
  wrong = subst (λ (last : Option ℕ). IsWrong kind (behind befores.Anything last) found.rest) found.last (subst (λ (f : Option LogKind). Ends f (behind befores.Anything read.last) found.rest) is found.ends);
}

pub missing_by : (file : Option (List ℕ)) → file ≡ None → IsBadFile kinds.Missing 0 file
missing_by file is = subst (λ (f : Option (List ℕ)). IsBadFile kinds.Missing 0 f) (sym is) (refl, refl)

pub reads_file : (number : ℕ) (r : Result (GateLog × Vec LogRecord Global) LogFault) (bytes : List ℕ) (file : Option (List ℕ)) → file ≡ Some bytes → ReadsFile number r (Some bytes) → ReadsFile number r file
reads_file number r bytes file is reads = subst (λ (f : Option (List ℕ)). ReadsFile number r f) (sym is) reads

pub finds_some : (found : Option (Vec ℕ Global)) (v : Vec ℕ Global) (file : Option (List ℕ)) → found ≡ Some v → Finds found file → file ≡ Some v.items
finds_some found v file is finds = subst (λ (f : Option (Vec ℕ Global)). Finds f file) is finds

pub finds_none : (found : Option (Vec ℕ Global)) (file : Option (List ℕ)) → found ≡ None → Finds found file → file ≡ None
finds_none found file is finds = subst (λ (f : Option (Vec ℕ Global)). Finds f file) is finds

pub bytes_cause : {T : Type 0} (before now : ℕ) (r : Result T LogFault) → before ≤ now → IsOfBytes r → HasLogCause before now r
bytes_cause before now (Ok value) later of = later
bytes_cause before now (Err faults.NoMemory) later of = later
bytes_cause before now (Err faults.DiskFault) later of = absurd of
bytes_cause before now (Err (faults.BadLog place kind)) later of = later
