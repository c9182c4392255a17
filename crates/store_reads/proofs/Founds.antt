-- What was read of a disk is what its files hold.
use Rattle.std.proofs.Common.{◌≡◌, ◌≢◌, inl, inr, ℕ, zero, suc, ◌+◌, ◌<◌, ◌≤◌, List, [], ◌∷◌, ◌++◌, Bool, cond, Option, Some, None, refl, sym, ◌∙◌, ap, subst, arith, length, map, All, AllPairs}
use Rattle.std.specs.Arc.{arc_value}
use Rattle.std.specs.FinMap as finite
use Rattle.std.specs.List.{AllZip, fold}
use Rattle.std.proofs.lemmas.Bool.{cases_lt, lt-ltb, le-ltb}
use Rattle.std.proofs.lemmas.List.{length-map, map-append}
use Rattle.chunk_store.specs.Images.{Image, IsThere, contents}
use Rattle.chunk_store.specs.Calls.{OnlyReads}
use Rattle.chunk_store.specs.declared.disk.Disk.{Ghosts as DiskWords}
use Rattle.doc_types.specs.declared.documents.DocRow.{DocRow}
use Rattle.doc_types.specs.declared.schema.Schema.{Schema}
use Rattle.doc_bytes.specs.SchemaText.{schema_text}
use Rattle.doc_types.specs.Rows.{rows_of}
use Rattle.doc_types.specs.Snapshots.{LayerValue, all_living, live}
use Rattle.gate_log.specs.Logs.{AreConsecutive, Stands as LogStands, last_number, quiet_log, spelled}
use Rattle.gate_log.specs.Reading.{Begins, behind}
use Rattle.gate_log.specs.declared.log.GateLog.{GateLog}
use Rattle.gate_log.specs.declared.reading.Before.{Before}
use Rattle.gate_log.specs.declared.reading.Before.TheVariants.{Chunks}
use Rattle.gate_log.specs.declared.records.LogRecord.{LogRecord}
use Rattle.root_slots.specs.Openings.{Opens}
use Rattle.root_slots.specs.Slots.{slots_of}
use Rattle.root_slots.specs.States.{IsState}
use Rattle.root_slots.specs.declared.root.Root.{Root}
use Rattle.root_slots.specs.declared.state.RootState.{RootState}
use Rattle.root_slots.proofs.Standing.{root_leaves}
use Rattle.step_history.specs.History.{Base}
use Rattle.step_history.specs.Places.{disk_chunks}
use Rattle.store_steps.specs.Batches.{AreFrom, Batch, IsBatchOf, above, after_batch, record_of}
use Rattle.store_steps.specs.Damage.{IsGoodState}
use Rattle.store_steps.specs.Directory.{AreFiles, Directory, IsChunkOf, IsInOrder, Reaches, directory_number, directory_rows, layers_from, logged, taken}
use Rattle.store_steps.specs.Doubts.{sure_files}
use Rattle.store_steps.specs.Kept.{IsImage}
use Rattle.store_steps.specs.declared.files.Files.{Files}
use Rattle.store_steps.proofs.Opening.{number_from, reached}
use Rattle.store_reads.specs.Reads.{IsDirectory, log_in}
use Rattle.store_reads.specs.declared.found.Found.{Found}
use Rattle.store_reads.specs.declared.logs.Logs.{Logs}
use Rattle.store_reads.specs.steps.Bases.{IsBaseRead}
use Rattle.store_reads.specs.steps.Founds.{IsLoadedAs}
use Rattle.store_reads.specs.steps.Loads.{number_after}
use Rattle.store_reads.specs.steps.Records.{IsRead, batch_in, batches_in}
use Rattle.store_reads.specs.steps.LogFiles.{AreRead}
use Rattle.store_reads.proofs.Chunked.{as_many, rows_back}
use Rattle.store_reads.proofs.FilesRead.{older_log}
use Rattle.store_reads.proofs.LogBytes.{batches_of, front_fits, read_again}
use Rattle.store_reads.proofs.RootFound.{IsOpen}

-- ---- numbers

pub joined : (before : Before) (xs ys : List LogRecord) → AreConsecutive xs → AreConsecutive ys → Begins (behind before (last_number xs)) ys → AreConsecutive (xs ++ ys)
joined before [] ys first second begins = second
joined before (x ∷ []) [] first second begins = tt
joined before (x ∷ []) (y ∷ ys) first second begins = (begins, second)
joined before (x ∷ z ∷ xs) ys first second begins = (first.0, joined before (z ∷ xs) ys first.1 second begins)

pub begins_both : (before : Before) (xs ys : List LogRecord) → Begins before xs → Begins (behind before (last_number xs)) ys → Begins before (xs ++ ys)
begins_both before [] ys first second = second
begins_both before (x ∷ xs) ys first second = first

from_of : (schema : Schema) (n : ℕ) (r : LogRecord) (records : List LogRecord) → r.number ≡ n → AreConsecutive (r ∷ records) → AreFrom n (batches_in schema (r ∷ records))
from_of schema n r [] is are = (is, tt)
from_of schema n r (s ∷ records) is are = (is, from_of schema (n + 1) s records (omega (arith, are.0, is)) are.1)

last_of : (through : ℕ) (r : LogRecord) (records : List LogRecord) → AreConsecutive (r ∷ records) → number_after through (last_number (r ∷ records)) ≡ r.number + length records
last_of through r [] are = omega arith
last_of through r (s ∷ records) are = omega (arith, last_of through s records are.1, are.0)

-- The batches are numbered from here, up to the last one.
pub record AreNumbered (schema : Schema) (through : ℕ) (records : List LogRecord) : Type 0 where
  pub first : ℕ
  pub low : first ≤ through + 1
  pub from : AreFrom first (batches_in schema records)
  pub last : number_after through (last_number records) + 1 ≡ first + length (batches_in schema records)

pub numbered : (schema : Schema) (through : ℕ) (records : List LogRecord) → AreConsecutive records → Begins (Chunks through) records → AreNumbered schema through records
numbered schema through [] are begins = record { first = through + 1; low = omega arith; from = tt; last = omega arith }
numbered schema through (r ∷ records) are begins = record {
  first = r.number;
  low = begins;
  from = from_of schema r.number r records refl are;
  last = omega (arith, last_of through r records are, length-map records (batch_in schema));
}

count_all : (t k : ℕ) (bs : List Batch) → AreFrom k bs → t < k → length (above t bs) ≡ length bs
count_all t k [] from lt = refl
count_all t k (b ∷ bs) from lt =
    let one : above t (b ∷ bs) ≡ b ∷ above t bs = ap (λ (c : Bool). cond c (b ∷ above t bs) (above t bs)) (lt-ltb t b.number (omega (arith, from.0, lt))) in
    ap length one ∙ ap suc (count_all t (k + 1) bs from.1 (omega (arith, lt)))

count_from : (t k : ℕ) (bs : List Batch) → AreFrom k bs → k ≤ t + 1 → t < k + length bs → length (above t bs) + (t + 1) ≡ k + length bs
count_from t k [] from low reach = omega (arith, low, reach)
count_from t k (b ∷ bs) from low reach = elim (cases_lt t b.number) [
  | inl lt ↦ omega (arith, count_all t k (b ∷ bs) from (omega (arith, from.0, lt)), from.0, lt, low)
  | inr le ↦
      let passed : above t (b ∷ bs) ≡ above t bs = ap (λ (c : Bool). cond c (b ∷ above t bs) (above t bs)) (le-ltb t b.number le) in
      omega (arith, ap length passed, count_from t (k + 1) bs from.1 (omega (arith, from.0, le)) (omega (arith, reach)))
]

-- ---- the directory

abbrev pub dir_of : Schema → RootState → List (List DocRow) → List LogRecord → List LogRecord → Directory
dir_of schema state chunks older newer = record { state = state; chunks = chunks; older = batches_in schema older; newer = batches_in schema newer }

pub logged_is : (schema : Schema) (older newer : List LogRecord) → batches_in schema older ++ batches_in schema newer ≡ batches_in schema (older ++ newer)
logged_is schema older newer = sym (map-append (batch_in schema) older newer)

pub in_order : (schema : Schema) (state : RootState) (chunks : List (List DocRow)) (older newer : List LogRecord) → state.schema_text ≡ schema_text schema → AllZip (IsChunkOf schema state.through) state.chunks chunks → AllPairs (λ row other. row.doc.id ≢ other.doc.id) (all_living (layers_from state.chunks chunks))
    → AreNumbered schema state.through (older ++ newer) → All (IsRead schema) (older ++ newer) → IsInOrder schema (dir_of schema state chunks older newer)
in_order schema state chunks older newer text rows once numbers all =
    let same = logged_is schema older newer in
    record {
      text = text;
      chunks = rows;
      once = once;
      numbers = (numbers.first, numbers.low, subst (λ (bs : List Batch). AreFrom numbers.first bs) (sym same) numbers.from);
      batches = subst (λ (bs : List Batch). All (IsBatchOf schema) bs) (sym same) (batches_of schema (older ++ newer) all);
    }

pub reaches_of : (schema : Schema) (state : RootState) (chunks : List (List DocRow)) (older newer : List LogRecord) → AreNumbered schema state.through (older ++ newer) → state.through ≤ number_after state.through (last_number (older ++ newer)) → Reaches (dir_of schema state chunks older newer)
reaches_of schema state chunks older newer numbers reach =
    let same = logged_is schema older newer in
    reached (dir_of schema state chunks older newer) numbers.first numbers.low (subst (λ (bs : List Batch). AreFrom numbers.first bs) (sym same) numbers.from) (omega (arith, numbers.last, reach, ap length same))

-- the files of a disk after they were synced and read
pub image_of : (schema : Schema) (layers : List LayerValue) (root : Root) (state : RootState) (told : Option Image) (logs : Logs) (image : Image) (base : IsBaseRead schema state told layers) → Opens root (Some state) (slots_of image) → (read : AreRead schema layers state told logs) → told ≡ Some image
    → IsImage schema (dir_of schema state base.read.chunks read.older read.newer) root.number None root (quiet_log state.newer logs.end.end logs.end.last) None image
image_of schema layers root state told logs image base opens read is =
    let all = read.loaded.of.all in
    let older_again : map record_of (batches_in schema read.older) ≡ read.older = read_again schema read.older (front_fits (IsRead schema) read.older read.newer all) in
    let newer_again : map record_of (batches_in schema read.newer) ≡ read.newer = read_again schema read.newer read.newer_is.all in
    let stands : LogStands (quiet_log state.newer logs.end.end logs.end.last) read.newer None (Some read.bytes) = record {
      records_are = read.newer_is.records_are;
      end = read.newer_is.end_is;
      last = read.newer_is.last_is;
      staged = refl;
      gate = read.newer_is.gate;
      rest = read.newer_is.rest;
      is = read.newer_is.is;
      closed = λ quiet. read.newer_is.closed;
      behind = tt;
    } in
    let here : LogStands (quiet_log state.newer logs.end.end logs.end.last) read.newer None (image state.newer) =
    subst (λ (f : Option (List ℕ)). LogStands (quiet_log state.newer logs.end.end logs.end.last) read.newer None f) (sym (read.bytes_are image is)) stands in
    record {
      chunks = base.read.files image is;
      older = older_log schema state.older read.older image older_again (read.has image is);
      slots = opens.stands;
      newer = subst (λ (l : List LogRecord). LogStands (quiet_log state.newer logs.end.end logs.end.last) l None (image state.newer)) (sym newer_again) here;
      other = tt;
    }

-- the root's slot is read as its own state
pub files_of : {schema : Schema} (root : Root) {log : GateLog} (dir : Directory) (image : Image) → IsImage schema dir root.number None root log None image → AreFiles schema dir root.number image
files_of root dir image is = record {
  root = root_leaves root (Some (record { number = root.number; state = dir.state })) None (slots_of image) is.slots;
  chunks = is.chunks;
  older = is.older;
}

pub empty_rows : rows_of [] ≡ finite.empty
empty_rows = refl

-- what was read of a root and its files is a directory
pub directory_is : (schema : Schema) (layers : List LayerValue) (root : Root) (state : RootState) (told : Option Image) (logs : Logs) (found : Found) → IsState state → IsGoodState schema state → IsBaseRead schema state told layers → IsOpen told root state
    → (read : AreRead schema layers state told logs) → IsLoadedAs schema layers root state logs (read.older ++ read.newer) found → IsDirectory schema root state told found
directory_is schema layers root state told logs found state_is good over slots read loads =
    let records = read.older ++ read.newer in
    let snapshot = arc_value found.snapshot in
    let dir = dir_of schema state over.read.chunks read.older read.newer in
    let same : logged dir ≡ batches_in schema records = logged_is schema read.older read.newer in
    let numbers : AreNumbered schema state.through records = numbered schema state.through records (joined (Chunks state.through) read.older read.newer read.older_are.numbers read.newer_is.records_are.numbers read.newer_is.begins) (begins_both (Chunks state.through) read.older read.newer read.begins read.newer_is.begins) in
    let newer_again : map record_of (batches_in schema read.newer) ≡ read.newer = read_again schema read.newer read.newer_is.all in
    let rows : directory_rows dir ≡ live snapshot =
    ap (λ (ls : List LayerValue). fold after_batch (rows_of (all_living ls)) (taken dir)) (sym over.read.are)
    ∙ ap (λ (bs : List Batch). fold after_batch (rows_of (all_living layers)) (above state.through bs)) same
    ∙ sym loads.snapshot.rows_are in
    let number : directory_number dir ≡ snapshot.number = omega (arith, number_from state.through numbers.first (logged dir) (subst (λ (bs : List Batch). AreFrom numbers.first bs) (sym same) numbers.from) numbers.low (omega (arith, numbers.last, loads.reach, ap length same)), numbers.last, loads.snapshot.number_is, ap length same) in
    let chunks : dir.chunks ≡ disk_chunks snapshot =
    sym (rows_back schema state.through state.chunks over.read.chunks over.read.rows) ∙ ap (map (λ (l : LayerValue). l.rows)) (sym over.read.are) ∙ sym loads.snapshot.chunks_are in
    let log : quiet_log state.newer logs.end.end logs.end.last ≡ log_in dir =
    ap (λ (end : ℕ). quiet_log state.newer end logs.end.last) (read.newer_is.end_is ∙ ap (λ (rs : List LogRecord). length (spelled rs)) (sym newer_again))
    ∙ ap (λ (last : Option ℕ). quiet_log state.newer (length (spelled (map record_of dir.newer))) last) (read.newer_is.last_is ∙ ap last_number (sym newer_again)) in
    record {
      dir = dir;
      state_is = refl;
      in_order = in_order schema state over.read.chunks read.older read.newer good over.read.rows over.read.once numbers read.loaded.of.all;
      reaches = reaches_of schema state over.read.chunks read.older read.newer numbers loads.reach;
      image = λ image is. subst (λ (l : GateLog). IsImage schema dir root.number None root l None image) log (image_of schema layers root state told logs image over (slots image is) read is);
      files_are = loads.files_are ∙ ap (sure_files root state) log;
      says = record { rows = rows; number = number; chunks = chunks };
      places = loads.snapshot.places;
      few = omega (arith, as_many schema state.through state.chunks over.read.chunks over.read.rows, state_is.few);
      records_are = omega (arith, loads.records_are, count_from state.through numbers.first (batches_in schema records) numbers.from numbers.low (omega (arith, numbers.last, loads.reach)), numbers.last, loads.snapshot.number_is, ap (λ (bs : List Batch). length (above state.through bs)) same);
      documents_are = loads.documents_are;
      shape = loads.snapshot.shape_is;
      of = loads.snapshot.of;
    }
