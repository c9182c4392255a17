-- What was read of a disk is what it keeps.
use Rattle.std.proofs.Common.{inl, inr, ◌≡◌, ◌≢◌, ℕ, zero, suc, ◌<◌, List, [], ◌∷◌, ◌++◌, Option, Some, None, Result, Ok, Err, refl, sym, ◌∙◌, ap, subst, arith, length, length-append, map, not, nat_lt}
use Rattle.std.specs.Arc.{arc_value}
use Rattle.chunk_store.proofs.WholeFiles.{looks_then}
use Rattle.chunk_store.specs.Calls.{OnlyReads}
use Rattle.chunk_store.specs.Images.{Image, IsThere, contents}
use Rattle.chunk_store.specs.declared.disk.Disk.{Ghosts as DiskWords}
use Rattle.doc_types.specs.declared.schema.Schema.{Schema}
use Rattle.gate_log.proofs.Standing.{gives_records}
use Rattle.gate_log.specs.Logs.{IsLogOf, spelled}
use Rattle.gate_log.specs.declared.records.LogRecord.{LogRecord}
use Rattle.root_slots.specs.Slots.{IsRoot, Slot, Slots, slots_of, tail}
use Rattle.root_slots.specs.States.{IsState}
use Rattle.root_slots.specs.declared.root.Root.{Root}
use Rattle.root_slots.specs.declared.state.RootState.{RootState}
use Rattle.root_slots.proofs.Standing.{root_leaves}
use Rattle.step_history.specs.History.{Base}
use Rattle.store_reads.specs.Reads.{IsDirectory, ReadsDirectory, log_in}
use Rattle.store_reads.specs.declared.fault.StoreFault.{StoreFault}
use Rattle.store_reads.specs.declared.fault.StoreFault.TheVariants as faults
use Rattle.store_reads.specs.declared.found.Found.{Found}
use Rattle.store_steps.specs.Batches.{Batch, record_of}
use Rattle.store_steps.specs.Directory.{Directory, IsOlderLog}
use Rattle.store_steps.specs.Doubts.{sure_files}
use Rattle.store_steps.specs.Kept.{IsImage, IsKept}
use Rattle.store_steps.specs.declared.files.Files.{Files}
use Rattle.store_steps.proofs.Opening.{Agree, begins}
use Rattle.store_keep.specs.Opens.{HidesNothing}
use Rattle.store_keep.specs.steps.Finds.{AreSteady, Finds, IsFound, IsRootRead, IsSteady}
use Rattle.store_keep.proofs.Steadied.{chunks_steady, files_then}

pub slot_same : {D : Type 0} (words : DiskWords D) (disk : D) (slot : ℕ) → slot < 2 → HidesNothing words disk → IsSteady slot (words.told disk) (words.may_leave disk) → (image x : Image) → words.told disk ≡ Some image → words.may_leave disk x → x slot ≡ image slot
slot_same words disk slot lt hides steady image x is left = elim (image slot) as (λ f. image slot ≡ f → x slot ≡ image slot) [
  | None ↦ λ e. hides.hides image x slot lt is left e ∙ sym e
  | Some bytes ↦ λ e. steady image is (subst (λ (f : Option (List ℕ)). IsThere f) (sym e) tt) x left
] refl

older_same : (file : ℕ) (image x : Image) → x 0 ≡ image 0 → (file ≢ 0 → x file ≡ image file) → x file ≡ image file
older_same zero image x zeroth other = zeroth
older_same (suc file) image x zeroth other = other (λ (e : suc file ≡ 0). absurd (omega (arith, e)))

-- a log's file is there
log_there : (records : List LogRecord) (file : Option (List ℕ)) → IsLogOf records (contents file) → IsThere file
log_there records (Some bytes) log = tt
log_there records None log = absurd (omega (arith, ap length log.is, length-append (spelled records) (log.gate ∷ log.rest)))

older_there : (file : ℕ) (batches : List Batch) (image : Image) → file ≢ 0 → IsOlderLog image file batches → IsThere (image file)
older_there zero batches image apart log = absurd (apart refl)
older_there (suc file) batches image apart log = log_there (map record_of batches) (image (suc file)) log

-- a crash leaves the files of the directory as they were read
agrees : (schema : Schema) (dir : Directory) (number : ℕ) (root : Root) (told : Option Image) (may : Image → Type 0) (image x : Image) → told ≡ Some image → may x → AreSteady dir.state told may → IsImage schema dir number None root (log_in dir) None image → x 0 ≡ image 0 → x 1 ≡ image 1 → Agree dir image x
agrees schema dir number root told may image x is left steady image_is zeroth first = record {
  zeroth = zeroth;
  first = first;
  chunks = chunks_steady schema told may image x is left dir.state.chunks dir.chunks image_is.chunks steady.chunks;
  older = older_same dir.state.older image x zeroth (λ apart. steady.older apart image is (older_there dir.state.older dir.older image apart image_is.older) x left);
  newer = steady.newer image is (log_there (map record_of dir.newer) (image dir.state.newer) (gives_records (log_in dir) (map record_of dir.newer) (image dir.state.newer) refl image_is.newer)) x left;
}

-- a root that is read has a file
no_bytes : (file : Option (List ℕ)) (b : ℕ) (bytes : List ℕ) → contents file ≡ b ∷ bytes → file ≡ None → ⊥
no_bytes file b bytes is none = let empty : [] ≡ b ∷ bytes = sym (ap contents none) ∙ is in cc empty

open_there : (s : Slot) (slots : Slots) → IsRoot (Some s) slots → slots.zeroth ≡ None → slots.first ≡ None → ⊥
open_there s slots (inl (opened, below)) zeroth first = no_bytes slots.zeroth 1 (tail s ++ opened.rest) opened.is zeroth
open_there s slots (inr (opened, below)) zeroth first = no_bytes slots.first 1 (tail s ++ opened.rest) opened.is first

-- a directory that was read of steady files is found, and kept
pub found_is : {D : Type 0} (words : DiskWords D) (schema : Schema) (root : Root) (state : RootState) (old new : D) (found : Found) → IsState state → IsRootRead (words.told old) (words.may_leave old) root (Some state) → OnlyReads words old new → AreSteady state (words.told new) (words.may_leave new)
    → IsDirectory schema root state (words.told new) found → ((x : Image) → words.may_leave new x → (image : Image) × (words.told new ≡ Some image)) → IsFound words schema old new found
found_is words schema root state old new found state_is slots looks steady read tells =
    let snapshot = arc_value found.snapshot in
    let dir = read.dir in
    let files : Files = sure_files root state (log_in dir) in
    let base : Base = record { opening = snapshot; log = (log_in dir).end } in
    let through : state.through ≡ dir.state.through = ap (λ (s : RootState). s.through) (sym read.state_is) in
    record {
      said = λ image is.
          let here = read.image image (looks.same ∙ is) in
          record {
            found = Some dir;
            holds = (
              record {
                number = root.number;
                files = record { root = root_leaves root (Some (record { number = root.number; state = dir.state })) None (slots_of image) here.slots; chunks = here.chunks; older = here.older };
                newer = gives_records (log_in dir) (map record_of dir.newer) (image dir.state.newer) refl here.newer;
                in_order = read.in_order;
              },
              read.reaches,
            );
            rows = read.says.rows;
            number = read.says.number;
            places = λ id row got. read.places id row got ∙ ap (λ (n : ℕ). not (nat_lt n row.born)) through;
            chunks = read.says.chunks;
            few = read.few;
            records_are = read.records_are;
          };
      fresh = λ image is zeroth first.
          absurd (open_there (record { number = root.number; state = state }) (slots_of image)
          (root_leaves root (Some (record { number = root.number; state = state })) None (slots_of image) (slots.opens image is).stands) zeroth first);
      kept = λ hides.
          subst (λ (fs : Files). IsKept words schema (record { opening = snapshot; log = fs.log.end }) [] None new fs) (sym read.files_are)
          (begins words schema base new files dir root.number (subst IsState (sym read.state_is) state_is) read.in_order read.reaches read.says refl (sym read.state_is) (ap (λ (s : RootState). s.next_file) (sym read.state_is)) refl refl refl refl read.image
          (λ x left.
          let i = tells x left in
          let told : words.told old ≡ Some i.0 = sym looks.same ∙ i.1 in (
            i.0,
            i.1,
            agrees schema dir root.number root (words.told new) (words.may_leave new) i.0 x i.1 left (subst (λ (s : RootState). AreSteady s (words.told new) (words.may_leave new)) (sym read.state_is) steady) (read.image i.0 i.1)
                (slot_same words old 0 (omega arith) hides slots.zeroth i.0 x told (looks.now x left)) (slot_same words old 1 (omega arith) hides slots.first i.0 x told (looks.now x left)),
          )));
      of = read.of;
      shape = read.shape;
      documents_are = read.documents_are;
    }

-- what reading steady files comes to
pub finds_by : {D : Type 0} (words : DiskWords D) (schema : Schema) (root : Root) (state : RootState) (old mid new : D) (r : Result Found StoreFault) → IsState state → IsRootRead (words.told old) (words.may_leave old) root (Some state) → OnlyReads words old mid → OnlyReads words mid new → AreSteady state (words.told mid) (words.may_leave mid)
    → ReadsDirectory schema root state (words.told new) r → ((x : Image) → words.may_leave new x → (image : Image) × (words.told new ≡ Some image)) → Finds words schema old new r
finds_by words schema root state old mid new (Ok found) state_is slots first then steady read tells =
    found_is words schema root state old new found state_is slots (looks_then words old mid new first then) (files_then words mid new state then steady) read tells
finds_by words schema root state old mid new (Err faults.NoMemory) state_is slots first then steady read tells = tt
finds_by words schema root state old mid new (Err faults.DiskFault) state_is slots first then steady read tells = tt
finds_by words schema root state old mid new (Err (faults.Damaged damage)) state_is slots first then steady read tells = λ image is. read image (then.same ∙ first.same ∙ is)
