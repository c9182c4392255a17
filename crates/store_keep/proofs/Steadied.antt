-- Files that were synced: a crash leaves of them what a read gives.
use Rattle.std.proofs.Common.{◌≡◌, ◌≢◌, ℕ, zero, suc, ◌+◌, ◌<◌, List, [], ◌∷◌, ◌++◌, Option, Some, Result, Ok, Err, length, get_or, take, sym, ◌∙◌, ap, subst, arith}
use Rattle.std.specs.List.{AllByRecursion, AllZip}
use Rattle.std.specs.Result.{OnOk}
use Rattle.chunk_store.specs.Calls.{IsSynced, OnlyReads}
use Rattle.chunk_store.specs.Images.{Image, IsThere}
use Rattle.chunk_store.specs.declared.disk.Disk.{Ghosts as DiskWords}
use Rattle.doc_types.specs.declared.documents.DocRow.{DocRow}
use Rattle.doc_types.specs.declared.schema.Schema.{Schema}
use Rattle.root_slots.specs.declared.root.Root.{Root}
use Rattle.root_slots.specs.declared.state.ChunkEntry.{ChunkEntry}
use Rattle.root_slots.specs.declared.state.RootState.{RootState}
use Rattle.store_reads.specs.Reads.{ReadsSlots}
use Rattle.store_reads.specs.declared.fault.StoreFault.{StoreFault}
use Rattle.store_steps.specs.Directory.{IsChunkFile}
use Rattle.store_keep.specs.steps.Finds.{AreSteady, IsSteady, ReadsSteadySlots}

pub on_ok : {T E : Type 0} (r : Result T E) (F : Type 0) → F → OnOk r F
on_ok (Ok v) F fact = fact
on_ok (Err e) F fact = tt

pub steady_by : {T E : Type 0} (r : Result T E) (file : ℕ) (told : Option Image) (may : Image → Type 0) → OnOk r (IsSynced file told may) → OnOk r (IsSteady file told may)
steady_by (Ok v) file told may synced = λ image is there x left. synced image is x left
steady_by (Err e) file told may synced = tt

pub steady_then : {D : Type 0} (words : DiskWords D) (mid new : D) (file : ℕ) → OnlyReads words mid new → IsSteady file (words.told mid) (words.may_leave mid) → IsSteady file (words.told new) (words.may_leave new)
steady_then words mid new file looks steady = λ image is there x left. steady image (sym looks.same ∙ is) there x (looks.now x left)

-- a crash leaves of these files what a read gives
abbrev pub AreSteadyChunks : Option Image → (Image → Type 0) → List ChunkEntry → Type 0
AreSteadyChunks told may entries = AllByRecursion (λ (entry : ChunkEntry). IsSteady entry.file told may) entries

pub steady_all : {D : Type 0} (words : DiskWords D) (mid new : D) (entries : List ChunkEntry) → OnlyReads words mid new → AreSteadyChunks (words.told mid) (words.may_leave mid) entries → AreSteadyChunks (words.told new) (words.may_leave new) entries
steady_all words mid new [] looks all = tt
steady_all words mid new (entry ∷ entries) looks all = (steady_then words mid new entry.file looks all.0, steady_all words mid new entries looks all.1)

steady_push : (told : Option Image) (may : Image → Type 0) (entries : List ChunkEntry) (entry : ChunkEntry) → AreSteadyChunks told may entries → IsSteady entry.file told may → AreSteadyChunks told may (entries ++ entry ∷ [])
steady_push told may [] entry all one = (one, tt)
steady_push told may (e ∷ entries) entry all one = (all.0, steady_push told may entries entry all.1 one)

taken_more : {X : Type 0} (xs : List X) (i : ℕ) (x : X) → i < length xs → get_or xs i x ≡ x → take (suc i) xs ≡ take i xs ++ x ∷ []
taken_more [] i x lt is = absurd (omega (arith, lt))
taken_more (y ∷ ys) zero x lt is = ap (λ z. z ∷ []) is
taken_more (y ∷ ys) (suc i) x lt is = ap (λ l. y ∷ l) (taken_more ys i x (omega (arith, lt)) is)

-- one file more
pub steady_more : {D : Type 0} (words : DiskWords D) (mid new : D) (entries : List ChunkEntry) (i : ℕ) (entry : ChunkEntry) → i < length entries → get_or entries i entry ≡ entry → OnlyReads words mid new → AreSteadyChunks (words.told mid) (words.may_leave mid) (take i entries)
    → IsSteady entry.file (words.told new) (words.may_leave new) → AreSteadyChunks (words.told new) (words.may_leave new) (take (i + 1) entries)
steady_more words mid new entries i entry lt is looks all one =
    let next : i + 1 ≡ suc i = omega arith in
    subst (AreSteadyChunks (words.told new) (words.may_leave new)) (sym (ap (λ (n : ℕ). take n entries) next ∙ taken_more entries i entry lt is))
    (steady_push (words.told new) (words.may_leave new) (take i entries) entry (steady_all words mid new (take i entries) looks all) one)

-- ---- the root

-- it was read of slots that are steady
pub slots_read : (r : Result (Root × Option RootState) StoreFault) (told : Option Image) (may : Image → Type 0) → ReadsSlots told r → IsSteady 0 told may → IsSteady 1 told may → ReadsSteadySlots told may r
slots_read (Ok found) told may read zeroth first = record { opens = read; zeroth = zeroth; first = first }
slots_read (Err fault) told may read zeroth first = read

-- ---- the files that a root names

-- chunks and logs were synced
pub files_steady : {T E : Type 0} (r : Result T E) (state : RootState) (told : Option Image) (may : Image → Type 0) → AreSteadyChunks told may state.chunks → OnOk r (state.older ≢ 0 → IsSteady state.older told may) → OnOk r (IsSteady state.newer told may) → OnOk r (AreSteady state told may)
files_steady (Ok v) state told may chunks older newer = record { chunks = chunks; older = older; newer = newer }
files_steady (Err e) state told may chunks older newer = tt

-- calls that look leave them so
pub files_then : {D : Type 0} (words : DiskWords D) (mid new : D) (state : RootState) → OnlyReads words mid new → AreSteady state (words.told mid) (words.may_leave mid) → AreSteady state (words.told new) (words.may_leave new)
files_then words mid new state looks steady = record {
  chunks = steady_all words mid new state.chunks looks steady.chunks;
  older = λ apart. steady_then words mid new state.older looks (steady.older apart);
  newer = steady_then words mid new state.newer looks steady.newer;
}

-- a crash leaves of their files what was read
pub chunks_steady : (schema : Schema) (told : Option Image) (may : Image → Type 0) (image x : Image) → told ≡ Some image → may x → (entries : List ChunkEntry) (chunks : List (List DocRow)) → AllZip (IsChunkFile schema image) entries chunks → AllByRecursion (λ entry. IsSteady entry.file told may) entries
    → AllByRecursion (λ c. x c.file ≡ image c.file) entries
chunks_steady schema told may image x is left [] chunks files steady = tt
chunks_steady schema told may image x is left (entry ∷ entries) [] files steady = absurd files
chunks_steady schema told may image x is left (entry ∷ entries) (rows ∷ chunks) files steady =
    (steady.0 image is (subst (λ (f : Option (List ℕ)). IsThere f) (sym files.0.is) tt) x left, chunks_steady schema told may image x is left entries chunks files.1 steady.1)
