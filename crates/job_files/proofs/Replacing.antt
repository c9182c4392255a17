-- The root is replaced by the state of a job.
use Rattle.std.proofs.Common.{◌≡◌, ◌⊎◌, ⊎_elim, inl, inr, ℕ, zero, suc, ◌+◌, ◌≤◌, List, [], ◌∷◌, ◌++◌, map, false, Option, Some, None, IfSome, refl, sym, ◌∙◌, ap, subst, arith}
use Rattle.std.specs.List.{AllZip}
use Rattle.doc_types.specs.declared.documents.DocRow.{DocRow}
use Rattle.doc_types.specs.declared.schema.Schema.{Schema}
use Rattle.doc_types.specs.Snapshots.{SnapshotValue}
use Rattle.chunk_store.specs.Images.{Image, Told, contents}
use Rattle.chunk_store.specs.Calls.{Crashes}
use Rattle.chunk_store.specs.declared.disk.Disk.{Ghosts as DiskWords}
use Rattle.chunk_store.proofs.Told.{told_by}
use Rattle.gate_log.specs.declared.log.GateLog.{GateLog}
use Rattle.gate_log.specs.Logs.{IsLogOf, Stands as LogStands, quiet_log}
use Rattle.gate_log.proofs.Standing.{gives_records}
use Rattle.root_slots.specs.Roots.{Doubts, Failing, Leaves, Replaces, Replacing, Stands as RootStands, Steps, next, replaced}
use Rattle.root_slots.specs.Slots.{ChangesSlots, IsRoot, Slot, slots_of}
use Rattle.root_slots.specs.States.{AreEntries, IsState, naming}
use Rattle.root_slots.specs.declared.root.Root.{Root}
use Rattle.root_slots.specs.declared.state.ChunkEntry.{ChunkEntry}
use Rattle.root_slots.specs.declared.state.RootState.{RootState}
use Rattle.step_history.specs.History.{Base, Step, Reshape, IsGood, last_snapshot}
use Rattle.step_history.specs.Logs.{log_at}
use Rattle.step_history.proofs.LogEnds as ends
use Rattle.step_history.proofs.Steps.{last_one}
use Rattle.store_steps.specs.declared.files.Files.{Files}
use Rattle.store_steps.specs.Batches.{Batch, record_of}
use Rattle.store_steps.specs.Directory.{Directory, IsChunkFile, IsOlderLog}
use Rattle.store_steps.specs.Grown.{grown, through_at}
use Rattle.job_files.specs.Jobs.{AreWritten, HasNewFiles, IsJob, log_file}
use Rattle.store_steps.specs.Doubts.{AreOther, Doubted, MayStand, face_of, slot_in}
use Rattle.store_steps.specs.Kept.{Gives, HasAll, IsImage, IsKept, LeavesOnly, Says}
use Rattle.store_steps.proofs.Giving.{face_gives, face_number, face_order, face_reaches, face_rows, older_log, says_so, stands_with}
use Rattle.job_files.proofs.Growing.{grown_reshape, through_reshape}
use Rattle.job_files.proofs.Jobs.{doubted, job_may, job_other}
use Rattle.store_steps.proofs.Keeping.{at_rest, gives, has_all, is_quiet}
use Rattle.store_steps.proofs.Leaving.{leaves_by}
use Rattle.job_files.proofs.Writing.{may_with}

-- ---- files that aren't slots stay

zip_slots : (schema : Schema) (next_file : ℕ) (d x : Image) → ((f : ℕ) → 2 ≤ f → x f ≡ d f) → (named : List ℕ) (entries : List ChunkEntry) (chunks : List (List DocRow))
    → AreEntries next_file named entries → AllZip (IsChunkFile schema d) entries chunks → AllZip (IsChunkFile schema x) entries chunks
zip_slots schema next_file d x same named [] [] are files = tt
zip_slots schema next_file d x same named [] (rows ∷ chunks) are files = absurd files
zip_slots schema next_file d x same named (c ∷ entries) [] are files = absurd files
zip_slots schema next_file d x same named (c ∷ entries) (rows ∷ chunks) are files =
    let here = files.0 in (
      record { bytes = here.bytes; is = same c.file are.0.file.no_slot ∙ here.is; size = here.size; image = here.image },
      zip_slots schema next_file d x same (naming named c) entries chunks are.1 files.1,
    )

chunks_stay : (schema : Schema) (state : RootState) (chunks : List (List DocRow)) (d x : Image) → IsState state → ((f : ℕ) → 2 ≤ f → x f ≡ d f) → AllZip (IsChunkFile schema d) state.chunks chunks → AllZip (IsChunkFile schema x) state.chunks chunks
chunks_stay schema state chunks d x is same files = zip_slots schema state.next_file d x same (state.older ∷ state.newer ∷ []) state.chunks chunks is.chunks files

older_stays : (d x : Image) (file : ℕ) (batches : List Batch) → ((file ≡ 0) ⊎ (2 ≤ file)) → ((f : ℕ) → 2 ≤ f → x f ≡ d f) → IsOlderLog d file batches → IsOlderLog x file batches
older_stays d x zero batches is same older = older
older_stays d x (suc file) batches (inl none) same older = absurd (omega (arith, none))
older_stays d x (suc file) batches (inr two) same older = subst (λ (f : Option (List ℕ)). IsLogOf (map record_of batches) (contents f)) (sym (same (suc file) two)) older

older_is : (state : RootState) → IsState state → (state.older ≡ 0) ⊎ (2 ≤ state.older)
older_is state is = elim is.older [ inl none ↦ inl none | inr may ↦ inr may.no_slot ]

others_stay : (schema : Schema) (files : ℕ) (dir : Directory) (doubt : Option Doubted) (d x : Image) → IfSome doubt (MayStand schema files dir) → ((f : ℕ) → 2 ≤ f → x f ≡ d f) → IfSome doubt (AreOther schema d) → IfSome doubt (AreOther schema x)
others_stay schema files dir None d x may same other = tt
others_stay schema files dir (Some doubted) d x may same other = record {
  chunks = chunks_stay schema doubted.state doubted.chunks d x may.state same other.chunks;
  newer = subst (λ (f : Option (List ℕ)). IsLogOf [] (contents f)) (sym (same doubted.state.newer may.state.newer.no_slot)) other.newer;
}

-- only slots were written, and stand so
with_slots : (schema : Schema) (dir : Directory) (number files : ℕ) (doubt later : Option Doubted) (root after : Root) (log : GateLog) (d x : Image) → IsState dir.state → ((f : ℕ) → 2 ≤ f → x f ≡ d f)
    → IsImage schema dir number doubt root log None d → RootStands after (Some (record { number = number; state = dir.state })) (slot_in later) (slots_of x) → IfSome later (AreOther schema x) → IsImage schema dir number later after log None x
with_slots schema dir number files doubt later root after log d x state same image slots other = record {
  chunks = chunks_stay schema dir.state dir.chunks d x state same image.chunks;
  older = older_stays d x dir.state.older dir.older (older_is dir.state state) same image.older;
  slots = slots;
  newer = subst (λ (f : Option (List ℕ)). LogStands log (map record_of dir.newer) None f) (sym (same dir.state.newer state.newer.no_slot)) image.newer;
  other = other;
}

module _ {D : Type 0} (words : DiskWords D) (schema : Schema) (base : Base) (steps : List Step) (disk : D) (known : Files) (kept : IsKept words schema base steps None disk known) (none : known.log.staged ≡ None)
    (file : ℕ) (chunk : Option (List ℕ)) (new : RootState) (step : Step) (job : IsJob schema base steps known.state file chunk new step) (good : IsGood schema base steps) (written : AreWritten words chunk file disk) where
  abbrev Image1 : Image → Type 0
  Image1 d = IsImage schema kept.dir kept.number kept.doubt known.root known.log kept.next d

  at : (d : Image) → Image1 d → IsImage schema kept.dir kept.number kept.doubt known.root known.log None d
  at d image = at_rest words schema base steps disk known kept none d image

  all : HasAll base kept.start steps known.log kept.dir
  all = has_all words schema base steps disk known kept none

  abbrev mine : Slot
  mine = record { number = kept.number; state = kept.dir.state }

  abbrev d_new : Doubted
  d_new = doubted words schema base steps disk known kept none file chunk new step job good

  pub may_replace : Told (λ image. (o : Option Slot) × (q : Option Slot) × RootStands known.root o q (slots_of image)) (words.told disk)
  may_replace image is = (Some mine, slot_in kept.doubt, (kept.told image is).slots)

  -- the new face of an image
  new_other : (d x : Image) → Image1 d → HasNewFiles chunk file d → ((f : ℕ) → 2 ≤ f → x f ≡ d f) → AreOther schema x d_new
  new_other d x image files same =
      let here = job_other words schema base steps disk known kept none file chunk new step job good d image.chunks files in
      record {
        chunks = chunks_stay schema new job.chunks d x job.state same here.chunks;
        newer = subst (λ (f : Option (List ℕ)). IsLogOf [] (contents f)) (sym (same new.newer job.state.newer.no_slot)) here.newer;
      }

  log_in : (d x : Image) → Image1 d → ((f : ℕ) → 2 ≤ f → x f ≡ d f) → IsLogOf (map record_of kept.dir.newer) (contents (x kept.dir.state.newer))
  log_in d x image same =
      subst (λ (f : Option (List ℕ)). IsLogOf (map record_of kept.dir.newer) (contents f)) (sym (same kept.dir.state.newer kept.state.newer.no_slot))
      (gives_records known.log (map record_of kept.dir.newer) (d kept.dir.state.newer) (is_quiet words schema base steps disk known kept none) (at d image).newer)

  -- one image while the root is replaced
  replacing : (files : ℕ) → log_file file chunk + 1 ≤ files → (d x : Image) → Image1 d → HasNewFiles chunk file d → ChangesSlots (Replacing known.root new) d x → Gives schema base steps x
  replacing files le d x image new_files changes =
      let log = log_in d x image changes.others in
      ⊎_elim
      (λ (was : Leaves (Some mine) (slot_in kept.doubt) (slots_of x)).
      says_so schema kept.dir (last_snapshot base steps) x all.says
      (stands_with schema known.next_file kept.dir kept.number kept.doubt x kept.state.newer.no_slot kept.in_order kept.reaches kept.may (chunks_stay schema kept.dir.state kept.dir.chunks d x kept.state changes.others image.chunks)
      (older_stays d x kept.dir.state.older kept.dir.older (older_is kept.dir.state kept.state) changes.others image.older) (others_stay schema known.next_file kept.dir kept.doubt d x kept.may changes.others image.other) was log))
      (λ (root : IsRoot (Some (next known.root new)) (slots_of x)).
      says_so schema kept.dir (last_snapshot base steps) x all.says
      (face_gives schema files kept.dir d_new x kept.state.newer.no_slot (job_may words schema base steps disk known kept none file chunk new step job good files le) (new_other d x image new_files changes.others) root log))
      (changes.here (Some mine) (slot_in kept.doubt) image.slots)

  pub replacing_leaves : (after : D) → ((x : Image) → words.may_have_left disk (words.clock disk) x → words.may_leave disk x) → Crashes words disk after (ChangesSlots (Replacing known.root new)) → LeavesOnly words disk after (Gives schema base steps)
  replacing_leaves after only crashes =
      leaves_by words disk after {I = λ x. Image1 x × HasNewFiles chunk file x} {R = ChangesSlots (Replacing known.root new)} only (λ x may. (kept.left x may, written.left x may))
      (λ x both. gives words schema base steps disk known kept none x (at x both.0))
      (λ d x both changes. replacing (log_file file chunk + 1) (omega arith) d x both.0 both.1 changes) crashes

  -- ---- it was replaced

  abbrev dir_new : Directory
  dir_new = face_of kept.dir d_new

  abbrev log_new : GateLog
  log_new = quiet_log (log_file file chunk) 0 None

  new_image : (d x : Image) → Image1 d → HasNewFiles chunk file d → ChangesSlots (Replaces known.root new) d x → IsImage schema dir_new (known.root.number + 1) None (replaced known.root) log_new None x
  new_image d x image files changes =
      let other = new_other d x image files changes.others in
      let older : new.older ≡ kept.dir.state.newer = job.older ∙ ap (λ (s : RootState). s.newer) kept.state_is in
      let two : 2 ≤ new.older = subst (λ (f : ℕ). 2 ≤ f) (sym older) kept.state.newer.no_slot in
      let log : IsLogOf (map record_of kept.dir.newer) (contents (x new.older)) = subst (λ (f : ℕ). IsLogOf (map record_of kept.dir.newer) (contents (x f))) (sym older) (log_in d x image changes.others) in
      let begun : LogStands log_new [] None (x new.newer) =
      subst (λ (f : Option (List ℕ)). LogStands log_new [] None f) (sym (changes.others new.newer job.state.newer.no_slot)) (subst (λ (f : ℕ). LogStands log_new [] None (d f)) (sym job.newer) files.log) in
      record {
        chunks = other.chunks;
        older = older_log x new.older kept.dir.newer two log;
        slots = changes.here (Some mine) (slot_in kept.doubt) image.slots;
        newer = begun;
        other = tt;
      }

  says_new : Says dir_new (last_snapshot base (steps ++ step ∷ []))
  says_new =
      let may = job_may words schema base steps disk known kept none file chunk new step job good (log_file file chunk + 1) (omega arith) in
      let last : last_snapshot base (steps ++ step ∷ []) ≡ job.next = ap (λ (s : Step). last_snapshot base (steps ++ s ∷ [])) job.is ∙ last_one base steps (Reshape job.job new.through job.next) in
      let says : Says dir_new job.next = record {
        rows = face_rows kept.dir d_new ∙ may.rows ∙ all.says.rows ∙ sym job.follows.rows;
        number = face_number kept.dir d_new ∙ may.number ∙ all.says.number ∙ sym job.follows.number;
        chunks = job.disk;
      } in
      subst (λ (s : SnapshotValue). Says dir_new s) (sym last) says

  pub was_replaced : (after : D) (known2 : Files) → log_file file chunk + 1 ≤ known2.next_file → known2.root ≡ replaced known.root → known2.log ≡ log_new → known2.state ≡ new → Steps words (ChangesSlots (Replaces known.root new)) disk after → IsKept words schema base steps (Some step) after known2
  was_replaced after known2 le root_is log_is state_is moved =
      let may = job_may words schema base steps disk known kept none file chunk new step job good known2.next_file le in
      let image : (d x : Image) → Image1 d → HasNewFiles chunk file d → ChangesSlots (Replaces known.root new) d x → IsImage schema dir_new (known.root.number + 1) None known2.root known2.log None x =
      λ d x old files changes. subst (λ (l : GateLog). IsImage schema dir_new (known.root.number + 1) None known2.root l None x) (sym log_is) (subst (λ (r : Root). IsImage schema dir_new (known.root.number + 1) None r log_new None x) (sym root_is) (new_image d x old files changes)) in
      let none_grown : [] ≡ grown kept.start.batches (steps ++ step ∷ []) = sym (ap (λ (s : Step). grown kept.start.batches (steps ++ s ∷ [])) job.is ∙ grown_reshape kept.start.batches steps job.job new.through job.next) in
      let through_new : new.through ≡ through_at kept.start.through (steps ++ step ∷ []) = sym (ap (λ (s : Step). through_at kept.start.through (steps ++ s ∷ [])) job.is ∙ through_reshape kept.start.through steps job.job new.through job.next) in
      let no_end : 0 ≡ log_at base (steps ++ step ∷ []) = sym (ap (λ (s : Step). log_at base (steps ++ s ∷ [])) job.is ∙ ends.reshape base steps job.job new.through job.next) in
      record {
        dir = dir_new;
        number = known.root.number + 1;
        doubt = None;
        next = None;
        start = kept.start;
        start_low = kept.start_low;
        born = kept.born;
        state_is = state_is;
        state = job.state;
        made = omega (arith, job.next_file, le);
        in_order = face_order schema kept.dir d_new may.in_order;
        reaches = face_reaches kept.dir d_new may.reaches;
        file = ap (λ (l : GateLog). l.file) log_is ∙ sym job.newer;
        staged = ap (λ (l : GateLog). l.staged) log_is;
        quiet = λ (_ : _). ap (λ (l : GateLog). l.pending) log_is;
        last = ap (λ (l : GateLog). l.last) log_is;
        has = record { says = says_new; end = ap (λ (l : GateLog). l.end) log_is ∙ no_end; grown_is = none_grown; through_is = through_new };
        may = tt;
        sure = λ (_ : _). refl;
        told = told_by {R = ChangesSlots (Replaces known.root new)} {P = λ d. Image1 d × HasNewFiles chunk file d} {Q = λ x. IsImage schema dir_new (known.root.number + 1) None known2.root known2.log None x} (words.told disk) (words.told after) moved.told
            (λ d is. (kept.told d is, written.told d is)) (λ d x both changes. image d x both.0 both.1 changes);
        left = λ x left. let from = moved.left x left in image from.0 x (kept.left from.0 from.1) (written.left from.0 from.1) from.2;
      }

  -- ---- it may not have been replaced

  abbrev later_doubt : (later : Option Slot) → (later ≡ slot_in kept.doubt) ⊎ (later ≡ Some (next known.root new)) → Option Doubted
  later_doubt later (inl was) = kept.doubt
  later_doubt later (inr new_one) = Some d_new

  later_slot : (later : Option Slot) (which : (later ≡ slot_in kept.doubt) ⊎ (later ≡ Some (next known.root new))) → later ≡ slot_in (later_doubt later which)
  later_slot later (inl was) = was
  later_slot later (inr new_one) = new_one

  later_may : (files : ℕ) → known.next_file ≤ files → log_file file chunk + 1 ≤ files → (later : Option Slot) (which : (later ≡ slot_in kept.doubt) ⊎ (later ≡ Some (next known.root new))) → IfSome (later_doubt later which) (MayStand schema files kept.dir)
  later_may files le more later (inl was) = may_with schema known.next_file files kept.dir kept.doubt le kept.may
  later_may files le more later (inr new_one) = job_may words schema base steps disk known kept none file chunk new step job good files more

  later_other : (later : Option Slot) (which : (later ≡ slot_in kept.doubt) ⊎ (later ≡ Some (next known.root new))) (d x : Image) → Image1 d → HasNewFiles chunk file d → ((f : ℕ) → 2 ≤ f → x f ≡ d f) → IfSome (later_doubt later which) (AreOther schema x)
  later_other later (inl was) d x image files same = others_stay schema known.next_file kept.dir kept.doubt d x kept.may same image.other
  later_other later (inr new_one) d x image files same = new_other d x image files same

  pub not_replaced : (after : D) (known2 : Files) → known.next_file ≤ known2.next_file → log_file file chunk + 1 ≤ known2.next_file → known2.log ≡ known.log → known2.state ≡ known.state → known2.sure ≡ false → Failing words known.root known2.root (slot_in kept.doubt) new disk after → IsKept words schema base steps None after known2
  not_replaced after known2 le more log_is state_is unsure failing =
      let later = failing.later in
      let doubt = later_doubt later failing.which in
      let image : (d x : Image) → Image1 d → HasNewFiles chunk file d → ChangesSlots (Doubts known.root known2.root (slot_in kept.doubt) later) d x → IsImage schema kept.dir kept.number doubt known2.root known2.log None x =
      λ d x old files changes.
      let slots : RootStands known2.root (Some mine) (slot_in doubt) (slots_of x) = subst (λ (q : Option Slot). RootStands known2.root (Some mine) q (slots_of x)) (later_slot later failing.which) (changes.here (Some mine) old.slots) in
      subst (λ (l : GateLog). IsImage schema kept.dir kept.number doubt known2.root l None x) (sym log_is)
      (with_slots schema kept.dir kept.number known.next_file kept.doubt doubt known.root known2.root known.log d x kept.state changes.others (at d old) slots (later_other later failing.which d x old files changes.others)) in
      record {
        dir = kept.dir;
        number = kept.number;
        doubt = doubt;
        next = None;
        start = kept.start;
        start_low = kept.start_low;
        born = kept.born;
        state_is = state_is ∙ kept.state_is;
        state = kept.state;
        made = omega (arith, kept.made, le);
        in_order = kept.in_order;
        reaches = kept.reaches;
        file = ap (λ (l : GateLog). l.file) log_is ∙ kept.file;
        staged = ap (λ (l : GateLog). l.staged) log_is ∙ none;
        quiet = λ (_ : _). ap (λ (l : GateLog). l.pending) log_is ∙ is_quiet words schema base steps disk known kept none;
        last = ap (λ (l : GateLog). l.last) log_is ∙ kept.last;
        has = record { says = all.says; end = ap (λ (l : GateLog). l.end) log_is ∙ all.end; grown_is = all.grown_is; through_is = all.through_is };
        may = later_may known2.next_file le more later failing.which;
        sure = λ is. absurd (cc (is, unsure));
        told = told_by {R = ChangesSlots (Doubts known.root known2.root (slot_in kept.doubt) later)} {P = λ d. Image1 d × HasNewFiles chunk file d} {Q = λ x. IsImage schema kept.dir kept.number doubt known2.root known2.log None x} (words.told disk) (words.told after) failing.stands.told
            (λ d is. (kept.told d is, written.told d is)) (λ d x both changes. image d x both.0 both.1 changes);
        left = λ x left. let from = failing.stands.left x left in image from.0 x (kept.left from.0 from.1) (written.left from.0 from.1) from.2;
      }
