-- Logs that end before the chunks do.
use Rattle.std.proofs.Common.{◌≡◌, inr, ℕ, suc, ◌+◌, ◌≤◌, ◌<◌, List, [], ◌∷◌, ◌++◌, Option, Some, None, length, map, refl, sym, ◌∙◌, ap, subst, arith, All}
use Rattle.std.proofs.lemmas.List.{length-map}
use Rattle.std.proofs.lemmas.List.Elements.{All-cons, All-nil}
use Rattle.chunk_store.specs.Calls.{OnlyReads}
use Rattle.chunk_store.specs.Images.{Image, contents}
use Rattle.chunk_store.specs.declared.disk.Disk.{Ghosts as DiskWords}
use Rattle.doc_types.specs.declared.schema.Schema.{Schema}
use Rattle.doc_types.specs.Snapshots.{LayerValue}
use Rattle.gate_log.specs.Logs.{IsLogOf, last_number, quiet_log, spelled}
use Rattle.gate_log.specs.declared.reading.Before.TheVariants.{Chunks}
use Rattle.gate_log.specs.declared.records.LogRecord.{LogRecord}
use Rattle.root_slots.specs.declared.root.Root.{Root}
use Rattle.root_slots.specs.declared.state.RootState.{RootState}
use Rattle.store_steps.specs.Batches.{AreFrom, Batch, record_of}
use Rattle.store_steps.specs.Damage.{EndsEarly, IsGoodState, IsLastGate}
use Rattle.store_steps.specs.Directory.{Directory, HoldsFiles, IsInOrder, logged}
use Rattle.store_steps.specs.declared.damage.Damage.{Damage}
use Rattle.store_steps.specs.declared.damage.DamageKind.TheVariants as kinds
use Rattle.store_reads.specs.Reads.{SaysDamage}
use Rattle.store_reads.specs.declared.fault.StoreFault.TheVariants as faults
use Rattle.store_reads.specs.declared.logs.Logs.{Logs}
use Rattle.store_reads.specs.steps.Bases.{IsBaseRead}
use Rattle.store_reads.specs.steps.Founds.{gate_at, last_gate}
use Rattle.store_reads.specs.steps.Loads.{number_after}
use Rattle.store_reads.specs.steps.LogFiles.{AreRead}
use Rattle.store_reads.specs.steps.Records.{IsRead, batch_in, batches_in}
use Rattle.store_reads.proofs.FilesRead.{log_of}
use Rattle.store_reads.proofs.Founds.{AreNumbered, begins_both, dir_of, files_of, image_of, in_order, joined, logged_is, numbered}
use Rattle.store_reads.proofs.LogBytes.{front_fits, read_again}
use Rattle.store_reads.proofs.RootFound.{IsOpen}

-- batches that end below a number are all below it
all_below : (t n : ℕ) (bs : List Batch) → AreFrom n bs → n + length bs ≤ t → All (λ b. b.number < t) bs
all_below t n [] from le = All-nil (λ (b : Batch). b.number < t)
all_below t n (b ∷ bs) from le = All-cons (λ (b : Batch). b.number < t) b bs (omega (arith, from.0, le)) (all_below t (n + 1) bs from.1 (omega (arith, le)))

some_records : (records : List LogRecord) (last : ℕ) → last_number records ≡ Some last → 0 < length records
some_records [] last is = absurd cc
some_records (r ∷ records) last is = omega arith

some_last : (r : LogRecord) (records : List LogRecord) → (last : ℕ) × (last_number (r ∷ records) ≡ Some last)
some_last r [] = (r.number, refl)
some_last r (s ∷ records) = some_last s records

-- the gate behind the last record
gate_is : (schema : Schema) (state : RootState) (logs : Logs) (older newer : List LogRecord) → logs.end.last ≡ last_number newer → logs.older_end ≡ length (spelled older) → logs.end.end ≡ length (spelled newer) → map record_of (batches_in schema older) ≡ older → map record_of (batches_in schema newer) ≡ newer
    → IsLastGate state (batches_in schema older) (batches_in schema newer) (last_gate state logs).file (last_gate state logs).place
gate_is schema state logs older [] last ends end again same =
    subst (λ (o : Option ℕ). IsLastGate state (batches_in schema older) [] (gate_at state logs o).file (gate_at state logs o).place) (sym last) (refl, ends ∙ ap (λ (rs : List LogRecord). length (spelled rs)) (sym again))
gate_is schema state logs older (r ∷ newer) last ends end again same =
    let some = some_last r newer in
    subst (λ (o : Option ℕ). IsLastGate state (batches_in schema older) (batches_in schema (r ∷ newer)) (gate_at state logs o).file (gate_at state logs o).place) (sym (last ∙ some.1)) (refl, end ∙ ap (λ (rs : List LogRecord). length (spelled rs)) (sym same))

-- what is said of them
pub says_early : (schema : Schema) (layers : List LayerValue) (root : Root) (state : RootState) (told : Option Image) (logs : Logs) (damage : Damage) (last : ℕ) → IsGoodState schema state → IsBaseRead schema state told layers
    → IsOpen told root state → (read : AreRead schema layers state told logs) → logs.loaded.last ≡ Some last → last < state.through → damage ≡ last_gate state logs
    → SaysDamage schema told (faults.Damaged damage)
says_early schema layers root state told logs damage last good over slots read last_is low damage_is = λ image is.
    let records = read.older ++ read.newer in
    let dir = dir_of schema state over.read.chunks read.older read.newer in
    let same : logged dir ≡ batches_in schema records = logged_is schema read.older read.newer in
    let numbers : AreNumbered schema state.through records = numbered schema state.through records (joined (Chunks state.through) read.older read.newer read.older_are.numbers read.newer_is.records_are.numbers read.newer_is.begins) (begins_both (Chunks state.through) read.older read.newer read.begins read.newer_is.begins) in
    let order : IsInOrder schema dir = in_order schema state over.read.chunks read.older read.newer good over.read.rows over.read.once numbers read.loaded.of.all in
    let older_again : map record_of (batches_in schema read.older) ≡ read.older = read_again schema read.older (front_fits (IsRead schema) read.older read.newer read.loaded.of.all) in
    let newer_again : map record_of (batches_in schema read.newer) ≡ read.newer = read_again schema read.newer read.newer_is.all in
    let here = image_of schema layers root state told logs image over (slots image is) read is in
    let log : IsLogOf read.newer (contents (image state.newer)) = subst (λ (f : Option (List ℕ)). IsLogOf read.newer (contents f)) (sym (read.bytes_are image is)) (log_of read.newer_is) in
    let number : last_number records ≡ Some last = sym read.loaded.last_is ∙ last_is in
    let ends : number_after state.through (last_number records) ≡ last = ap (number_after state.through) number in
    let early : EndsEarly schema image damage = record {
      dir = dir;
      holds = record { number = root.number; files = files_of root dir image here; newer = subst (λ (l : List LogRecord). IsLogOf l (contents (image state.newer))) (sym newer_again) log; in_order = order };
      some = omega (arith, some_records records last number, ap length same, length-map records (batch_in schema));
      early = subst (All (λ b. b.number < state.through)) (sym same) (all_below state.through numbers.first (batches_in schema records) numbers.from (omega (arith, numbers.last, ends, low)));
      kind = ap (λ (d : Damage). d.kind) damage_is ∙ kind_is state logs logs.end.last;
      gate = subst (λ (d : Damage). IsLastGate state (batches_in schema read.older) (batches_in schema read.newer) d.file d.place) (sym damage_is)
          (gate_is schema state logs read.older read.newer read.newer_is.last_is read.older_ends read.newer_is.end_is older_again newer_again);
    } in
    inr (inr (inr (inr early)))
  where
    kind_is : (state : RootState) (logs : Logs) (o : Option ℕ) → (gate_at state logs o).kind ≡ kinds.RecordNumber
    kind_is state logs None = refl
    kind_is state logs (Some last) = refl
