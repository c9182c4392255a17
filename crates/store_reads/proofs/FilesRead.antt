-- Files of logs that were read.
use Rattle.std.proofs.Common.{◌≡◌, ◌≢◌, inl, inr, ℕ, zero, suc, ◌≤◌, List, [], Option, Some, None, Result, Ok, Err, refl, sym, ◌∙◌, ap, subst, map}
use Rattle.chunk_store.specs.Images.{Image, Told, contents}
use Rattle.chunk_store.specs.Calls.{OnlyReads}
use Rattle.chunk_store.specs.declared.disk.Disk.{Ghosts as DiskWords}
use Rattle.doc_types.specs.declared.schema.Schema.{Schema}
use Rattle.doc_types.specs.Snapshots.{LayerValue}
use Rattle.gate_log.specs.Logs.{IsLogOf, last_number}
use Rattle.gate_log.specs.Reading.{Begins, behind}
use Rattle.gate_log.specs.declared.reading.Before.{Before}
use Rattle.gate_log.specs.declared.reading.Before.TheVariants.{Chunks}
use Rattle.gate_log.specs.declared.records.LogRecord.{LogRecord}
use Rattle.root_slots.specs.declared.state.RootState.{RootState}
use Rattle.store_steps.specs.Batches.{record_of}
use Rattle.store_steps.specs.Damage.{IsBadLog, IsBadNewer}
use Rattle.store_steps.specs.Directory.{IsOlderLog}
use Rattle.store_steps.specs.declared.damage.DamageKind.TheVariants as kinds
use Rattle.store_reads.specs.Reads.{HasStoreCause}
use Rattle.store_reads.specs.declared.fault.StoreFault.{StoreFault}
use Rattle.store_reads.specs.declared.fault.StoreFault.TheVariants as faults
use Rattle.store_reads.specs.declared.loading.Loaded.{Loaded}
use Rattle.store_reads.specs.declared.loading.LogEnd.{LogEnd}
use Rattle.store_reads.specs.steps.Loads.{IsLogRead, IsOfBytes, TakesLog, before_next}
use Rattle.store_reads.specs.steps.Records.{batches_in}
use Rattle.store_reads.specs.steps.LogFiles.{AreRead, HasOlder, IsOlderRead, ReadsLog, ReadsLogs, ReadsOlder}
use Rattle.store_reads.proofs.LogBytes.{batches_of, read_again}

pub cause_of : {T : Type 0} (r : Result T StoreFault) (before now : ℕ) → before ≤ now → IsOfBytes r → HasStoreCause before now r
cause_of (Ok v) before now le of = le
cause_of (Err faults.NoMemory) before now le of = le
cause_of (Err faults.DiskFault) before now le of = absurd of
cause_of (Err (faults.Damaged damage)) before now le of = le

-- what the file's bytes come to
pub reads_by : (schema : Schema) (chunks : List LayerValue) (through : ℕ) (front : List LogRecord) (file : ℕ) (bytes : List ℕ) (told : Option Image) (r : Result LogEnd StoreFault) (new : Loaded) → Told (λ image. image file ≡ Some bytes) told → TakesLog schema chunks through front file bytes r new → ReadsLog schema chunks through front file told r new
reads_by schema chunks through front file bytes told (Ok found) new there takes = (bytes, there, takes)
reads_by schema chunks through front file bytes told (Err faults.NoMemory) new there takes = tt
reads_by schema chunks through front file bytes told (Err faults.DiskFault) new there takes = tt
reads_by schema chunks through front file bytes told (Err (faults.Damaged damage)) new there takes =
    (takes.0, λ image is. subst (λ (f : Option (List ℕ)). IsBadLog schema (before_next through front) damage.kind damage.place f) (sym (there image is)) takes.1)

pub missing_by : (schema : Schema) (before : Before) (file : Option (List ℕ)) → file ≡ None → IsBadLog schema before kinds.LogMissing 0 file
missing_by schema before file is = subst (λ (f : Option (List ℕ)). IsBadLog schema before kinds.LogMissing 0 f) (sym is) (refl, refl)

pub log_of : {schema : Schema} {before : Before} {records : List LogRecord} {bytes : List ℕ} {found : LogEnd} → IsLogRead schema before records bytes found → IsLogOf records bytes
log_of read = record { records_are = read.records_are; gate = read.gate; rest = read.rest; closed = read.closed; is = read.is }

has_older : (file : ℕ) (records : List LogRecord) (bytes : List ℕ) (image : Image) → file ≢ 0 → image file ≡ Some bytes → IsLogOf records bytes → HasOlder file records image
has_older zero records bytes image apart is log = absurd (apart refl)
has_older (suc file) records bytes image apart is log = subst (λ (f : Option (List ℕ)). IsLogOf records (contents f)) (sym is) log

pub older_read : (schema : Schema) (chunks : List LayerValue) (through file : ℕ) (told : Option Image) (found : LogEnd) (new : Loaded) → file ≢ 0 → ReadsLog schema chunks through [] file told (Ok found) new → IsOlderRead schema chunks through file told found.end new
older_read schema chunks through file told found new apart reads =
    let taken = reads.2 in
    record {
      records = taken.0;
      records_are = taken.1.records_are;
      begins = taken.1.begins;
      has = λ image is. has_older file taken.0 reads.0 image apart (reads.1 image is) (log_of taken.1);
      ends = taken.1.end_is;
      loaded = taken.2;
    }

pub older_bad : (schema : Schema) (chunks : List LayerValue) (state : RootState) (told : Option Image) (fault : StoreFault) (new : Loaded) → state.older ≢ 0 → ReadsLog schema chunks state.through [] state.older told (Err fault) new → ReadsOlder schema chunks state told (Err fault) new
older_bad schema chunks state told faults.NoMemory new apart reads = tt
older_bad schema chunks state told faults.DiskFault new apart reads = tt
older_bad schema chunks state told (faults.Damaged damage) new apart reads = λ image is. (apart, reads.0, reads.1 image is)

-- what is wrong with the older log is wrong with both
pub older_wrong : (schema : Schema) (chunks : List LayerValue) (state : RootState) (told : Option Image) (fault : StoreFault) (new : Loaded) → ReadsOlder schema chunks state told (Err fault) new → ReadsLogs schema chunks state told (Err fault)
older_wrong schema chunks state told faults.NoMemory new reads = tt
older_wrong schema chunks state told faults.DiskFault new reads = tt
older_wrong schema chunks state told (faults.Damaged damage) new reads = λ image is. inl (reads image is)

-- the newer log was read behind the older one
pub both_read : {D : Type 0} (words : DiskWords D) (schema : Schema) (chunks : List LayerValue) (state : RootState) (mid new : D) (end : ℕ) (between after : Loaded) (found : LogEnd) → OnlyReads words mid new → (older : IsOlderRead schema chunks state.through state.older (words.told mid) end between)
    → ReadsLog schema chunks state.through older.records state.newer (words.told new) (Ok found) after → AreRead schema chunks state (words.told new) (record { loaded = after; older_end = end; end = found })
both_read words schema chunks state mid new end between after found looks older reads =
    let taken = reads.2 in
    record {
      older = older.records;
      older_are = older.records_are;
      older_ends = older.ends;
      begins = older.begins;
      has = λ image is. older.has image (sym looks.same ∙ is);
      newer = taken.0;
      bytes = reads.0;
      bytes_are = reads.1;
      newer_is = taken.1;
      loaded = taken.2;
    }

pub older_log : (schema : Schema) (file : ℕ) (records : List LogRecord) (image : Image) → map record_of (batches_in schema records) ≡ records → HasOlder file records image → IsOlderLog image file (batches_in schema records)
older_log schema zero records image again has = ap (batches_in schema) has
older_log schema (suc file) records image again has = subst (λ (l : List LogRecord). IsLogOf l (contents (image (suc file)))) (sym again) has

pub newer_bad : {D : Type 0} (words : DiskWords D) (schema : Schema) (chunks : List LayerValue) (state : RootState) (mid new : D) (end : ℕ) (between after : Loaded) (fault : StoreFault) → OnlyReads words mid new → (older : IsOlderRead schema chunks state.through state.older (words.told mid) end between)
    → ReadsLog schema chunks state.through older.records state.newer (words.told new) (Err fault) after → ReadsLogs schema chunks state (words.told new) (Err fault)
newer_bad words schema chunks state mid new end between after faults.NoMemory looks older reads = tt
newer_bad words schema chunks state mid new end between after faults.DiskFault looks older reads = tt
newer_bad words schema chunks state mid new end between after (faults.Damaged damage) looks older reads = λ image is.
    let again : map record_of (batches_in schema older.records) ≡ older.records = read_again schema older.records older.loaded.of.all in
    let bad : IsBadNewer schema state image damage = record {
      older = batches_in schema older.records;
      is_older = older_log schema state.older older.records image again (older.has image (sym looks.same ∙ is));
      begins = subst (λ (l : List LogRecord). Begins (Chunks state.through) l) (sym again) older.begins;
      of = batches_of schema older.records older.loaded.of.all;
      file = reads.0;
      bad = subst (λ (l : List LogRecord). IsBadLog schema (behind (Chunks state.through) (last_number l)) damage.kind damage.place (image state.newer)) (sym again) (reads.1 image is);
    } in
    inr bad
