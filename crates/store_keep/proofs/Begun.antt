-- An index that was begun.
use Rattle.std.proofs.Common.{◌≡◌, inl, inr, ⊎_elim, ◌⊎◌, ℕ, ◌+◌, ◌≤◌, List, [], ◌++◌, Option, Some, None, Result, Ok, Err, refl, sym, ◌∙◌, ap, subst, arith, length, length-append}
use Rattle.std.specs.Arc.{arc_value}
use Rattle.std.specs.FinMap as finite
use Rattle.std.specs.Int.{w16, to_le_bytes}
use Rattle.std.specs.Ordering.{nat_cmp}
use Rattle.std.proofs.lemmas.List.Elements.{All-nil}
use Rattle.chunk_store.specs.Images.{Image, contents}
use Rattle.chunk_store.specs.Calls.{Crashes, OnlyReads}
use Rattle.chunk_store.specs.declared.disk.Disk.{Ghosts as DiskWords}
use Rattle.chunk_store.proofs.Told.{told_by}
use Rattle.doc_bytes.specs.SchemaText.{schema_text}
use Rattle.doc_types.specs.declared.schema.Schema.{Schema}
use Rattle.doc_types.specs.declared.documents.DocRow.{DocRow}
use Rattle.doc_types.specs.Rows.{Rows}
use Rattle.doc_types.specs.Documents.{AreRowsOf}
use Rattle.doc_types.specs.Snapshots.{LayerValue, live}
use Rattle.gate_log.specs.Logs.{IsLogOf, quiet_log}
use Rattle.gate_log.specs.declared.log.GateLog.{GateLog}
use Rattle.root_slots.specs.Roots.{Stands as RootStands, Steps, next, replaced}
use Rattle.root_slots.specs.Slots.{IsRoot, Slots, slots_of}
use Rattle.root_slots.specs.States.{IsState, chunks_bytes, numbers_bytes, text_bytes}
use Rattle.root_slots.specs.declared.root.Root.{Root}
use Rattle.root_slots.specs.declared.state.ChunkEntry.{ChunkEntry}
use Rattle.root_slots.specs.declared.state.RootState.{RootState}
use Rattle.root_slots.proofs.Standing.{root_leaves}
use Rattle.step_history.specs.History.{Base}
use Rattle.store_steps.specs.Directory.{IsInOrder, Reaches, StandsFor}
use Rattle.store_steps.specs.Doubts.{sure_files}
use Rattle.store_steps.specs.Grown.{AreBorn}
use Rattle.store_steps.specs.Kept.{IsImage, IsKept, Says}
use Rattle.store_steps.specs.declared.files.Files.{Files}
use Rattle.store_keep.specs.Opens.{HidesNothing, IsBegun, LeavesBegun}
use Rattle.store_reads.specs.declared.found.Found.{Found}
use Rattle.store_keep.specs.steps.Beginnings.{Begins, MayBegin, first_state}
use Rattle.store_keep.specs.steps.Finds.{Finds, IsFound, IsRootRead}
use Rattle.store_reads.specs.steps.Loads.{IsSnapshotOf}
use Rattle.store_reads.specs.steps.Records.{IsRead}
use Rattle.store_reads.specs.declared.fault.StoreFault.{StoreFault}
use Rattle.store_reads.specs.declared.fault.StoreFault.TheVariants as faults
use Rattle.store_reads.proofs.Founds.{dir_of, empty_rows, in_order, numbered, reaches_of}
use Rattle.store_keep.proofs.Founds.{slot_same}

pub state_is : (schema : Schema) (text : List ℕ) (chunks : List ChunkEntry) → text ≡ schema_text schema → chunks ≡ [] → record { schema_text = text; through = 0; next_file = 3; older = 0; newer = 2; chunks = chunks } ≡ first_state schema
state_is schema text chunks is none =
    ap (λ (t : List ℕ). record { schema_text = t; through = 0; next_file = 3; older = 0; newer = 2; chunks = chunks }) is
    ∙ ap (λ (cs : List ChunkEntry). record { schema_text = schema_text schema; through = 0; next_file = 3; older = 0; newer = 2; chunks = cs }) none

pub first_is_state : (schema : Schema) → length (schema_text schema) ≤ 65535 → IsState (first_state schema)
first_is_state schema short = record {
  text = omega (arith, short);
  through = omega arith;
  next_file = omega arith;
  older = inl refl;
  newer = record { no_slot = omega arith; made = omega arith; apart = refl };
  few = omega arith;
  chunks = tt;
  fits = omega (arith, short, length-append (text_bytes (schema_text schema) ++ numbers_bytes (first_state schema)) (chunks_bytes []), length-append (text_bytes (schema_text schema)) (numbers_bytes (first_state schema)), length-append (to_le_bytes w16 (length (schema_text schema))) (schema_text schema));
}

-- ---- what stands for the empty index

-- its snapshot
pub first_snapshot : (schema : Schema) → IsSnapshotOf schema [] 0 [] (record { number = 0; shape = 0; layers = [] })
first_snapshot schema = record {
  number_is = refl;
  shape_is = refl;
  rows_are = refl;
  chunks_are = refl;
  places = λ id row got. absurd (cc (finite.get-empty nat_cmp id, got));
  of = All-nil (λ (layer : LayerValue). AreRowsOf schema layer.rows);
}

order : (schema : Schema) → IsInOrder schema (dir_of schema (first_state schema) [] [] [])
order schema = in_order schema (first_state schema) [] [] [] refl tt (λ i j d l h. absurd (omega (arith, h))) (numbered schema 0 [] tt tt) (All-nil (IsRead schema))

reaches : (schema : Schema) → Reaches (dir_of schema (first_state schema) [] [] [])
reaches schema = reaches_of schema (first_state schema) [] [] [] (numbered schema 0 [] tt tt) (omega arith)

stands_empty : (schema : Schema) (root : Root) (x : Image) → IsRoot None (slots_of x) ⊎ (IsRoot (Some (next root (first_state schema))) (slots_of x) × IsLogOf [] (contents (x 2))) → StandsFor schema x finite.empty 0
stands_empty schema root x (inl none) = record { found = None; holds = none; rows_are = refl; number_is = refl }
stands_empty schema root x (inr new) = record {
  found = Some (dir_of schema (first_state schema) [] [] []);
  holds = (record { number = root.number + 1; files = record { root = new.0; chunks = tt; older = refl }; newer = new.1; in_order = order schema }, reaches schema);
  rows_are = empty_rows;
  number_is = refl;
}

slots_stand : {D : Type 0} (words : DiskWords D) (root : Root) (disk : D) → IsRootRead (words.told disk) (words.may_leave disk) root None → HidesNothing words disk → ((x : Image) → words.may_leave disk x → (image : Image) × (words.told disk ≡ Some image))
    → (d : Image) → words.may_leave disk d → RootStands root None None (slots_of d)
slots_stand words root disk read hides tells d left =
    let i = tells d left in
    let zeroth = slot_same words disk 0 (omega arith) hides read.zeroth i.0 d i.1 left in
    let first = slot_same words disk 1 (omega arith) hides read.first i.0 d i.1 left in
    let same : slots_of d ≡ slots_of i.0 = ap (λ (f : Option (List ℕ)). record { zeroth = f; first = d 1 }) zeroth ∙ ap (λ (f : Option (List ℕ)). record { zeroth = i.0 0; first = f }) first in
    subst (λ (s : Slots). RootStands root None None s) (sym same) (read.opens i.0 i.1).stands

begun_by : {D : Type 0} (words : DiskWords D) (schema : Schema) (root : Root) (disk : D) → IsRootRead (words.told disk) (words.may_leave disk) root None → HidesNothing words disk → ((x : Image) → words.may_leave disk x → (image : Image) × (words.told disk ≡ Some image))
    → (d x : Image) → words.may_leave disk d → MayBegin root (first_state schema) d x → IsBegun schema (words.told disk) x
begun_by words schema root disk read hides tells d x left step = record {
  none = λ image is. root_leaves root None None (slots_of image) (read.opens image is).stands;
  empty = stands_empty schema root x (step (slots_stand words root disk read hides tells d left));
}

-- what beginning an index may leave
pub begun_leaves : {D : Type 0} (words : DiskWords D) (schema : Schema) (root : Root) (old new : D) → IsRootRead (words.told old) (words.may_leave old) root None → ((x : Image) → words.may_leave old x → (image : Image) × (words.told old ≡ Some image))
    → Crashes words old new (MayBegin root (first_state schema)) → HidesNothing words old → LeavesBegun words schema old new
begun_leaves words schema root old new read tells crashes hides = record {
  later = crashes.later;
  now = λ x left. let from = crashes.now x left in inr (begun_by words schema root old read hides tells from.0 x from.1 from.2);
  since = λ t x le left. ⊎_elim (λ was. inl was) (λ from. inr (inr (begun_by words schema root old read hides tells from.0 x from.1 from.2))) (crashes.since t x le left);
}

pub same_leaves : {D : Type 0} (words : DiskWords D) (schema : Schema) (disk : D) → LeavesBegun words schema disk disk
same_leaves words schema disk = record { later = omega arith; now = λ x left. inl left; since = λ t x le left. inl left }

-- the files of an index that was begun
pub files_are : (schema : Schema) (root own : Root) (state : RootState) (log : GateLog) → own ≡ replaced root → state ≡ first_state schema → log ≡ quiet_log 2 0 None → sure_files own state log ≡ sure_files (replaced root) (first_state schema) (quiet_log 2 0 None)
files_are schema root own state log own_is state_is log_is =
    ap (λ (r : Root). sure_files r state log) own_is ∙ ap (λ (s : RootState). sure_files (replaced root) s log) state_is ∙ ap (sure_files (replaced root) (first_state schema)) log_is

begun_image : (schema : Schema) (root : Root) (d x : Image) → RootStands root None None (slots_of d) → Begins root (first_state schema) d x
    → IsImage schema (dir_of schema (first_state schema) [] [] []) (root.number + 1) None (replaced root) (quiet_log 2 0 None) None x
begun_image schema root d x stands begins = record { chunks = tt; older = refl; slots = begins.root_is stands; newer = begins.log_is; other = tt }

none_born : (number : ℕ) → AreBorn finite.empty number
none_born number id row got = absurd (cc (finite.get-empty nat_cmp id, got))

-- an index that was begun is kept
pub begun_found : {D : Type 0} (words : DiskWords D) (schema : Schema) (root : Root) (old new : D) (found : Found) → IsState (first_state schema) → IsRootRead (words.told old) (words.may_leave old) root None → ((x : Image) → words.may_leave old x → (image : Image) × (words.told old ≡ Some image))
    → Steps words (Begins root (first_state schema)) old new → found.files ≡ sure_files (replaced root) (first_state schema) (quiet_log 2 0 None) → IsSnapshotOf schema [] 0 [] (arc_value found.snapshot) → found.records ≡ 0 → found.documents ≡ 0 → IsFound words schema old new found
begun_found words schema root old new found state_is read tells steps files_is loaded records documents =
    let snapshot = arc_value found.snapshot in
    let dir = dir_of schema (first_state schema) [] [] [] in
    let none : (image : Image) → words.told old ≡ Some image → IsRoot None (slots_of image) = λ image is. root_leaves root None None (slots_of image) (read.opens image is).stands in
    let says : Says dir snapshot = record { rows = empty_rows ∙ sym loaded.rows_are; number = sym loaded.number_is; chunks = sym loaded.chunks_are } in
    let base : Base = record { opening = snapshot; log = 0 } in
    let born : AreBorn (live snapshot) snapshot.number = subst (λ (rows : Rows). AreBorn rows snapshot.number) (sym loaded.rows_are) (none_born snapshot.number) in
    record {
      said = λ image is. record {
        found = None;
        holds = none image is;
        rows = sym loaded.rows_are;
        number = sym loaded.number_is;
        places = loaded.places;
        chunks = says.chunks;
        few = omega arith;
        records_are = records;
      };
      fresh = λ image is zeroth first. ap (λ (fs : Files). fs.log.end) files_is;
      kept = λ hides.
          subst (λ (fs : Files). IsKept words schema (record { opening = snapshot; log = fs.log.end }) [] None new fs) (sym files_is) (record {
            dir = dir;
            number = root.number + 1;
            doubt = None;
            next = None;
            start = record { batches = []; through = 0 };
            start_low = omega arith;
            born = born;
            state_is = refl;
            state = state_is;
            made = omega arith;
            in_order = order schema;
            reaches = reaches schema;
            file = refl;
            staged = refl;
            quiet = λ (_ : _). refl;
            last = refl;
            has = record { says = says; end = refl; grown_is = refl; through_is = refl };
            may = tt;
            sure = λ (_ : _). refl;
            told = told_by {R = Begins root (first_state schema)} {P = λ image. RootStands root None None (slots_of image)} {Q = λ image. IsImage schema dir (root.number + 1) None (replaced root) (quiet_log 2 0 None) None image} (words.told old) (words.told new) steps.told
                (λ image is. (read.opens image is).stands) (λ d x stands begins. begun_image schema root d x stands begins);
            left = λ x left.
                let from = steps.left x left in
                begun_image schema root from.0 x (slots_stand words root old read hides tells from.0 from.1) from.2;
          });
      of = loaded.of;
      shape = loaded.shape_is;
      documents_are = documents ∙ sym (finite.len-empty nat_cmp DocRow) ∙ ap (λ (m : Rows). finite.len m) (sym loaded.rows_are);
    }

-- ---- behind calls that looked

hides_then : {D : Type 0} (words : DiskWords D) (old mid : D) → OnlyReads words old mid → HidesNothing words old → HidesNothing words mid
hides_then words old mid looks hides = record { hides = λ image x slot lt is left none. hides.hides image x slot lt (sym looks.same ∙ is) (looks.now x left) none }

pub finds_then : {D : Type 0} (words : DiskWords D) (schema : Schema) (old mid new : D) (r : Result Found StoreFault) → OnlyReads words old mid → Finds words schema mid new r → Finds words schema old new r
finds_then words schema old mid new (Ok found) looks is = record {
  said = λ image told. is.said image (looks.same ∙ told);
  fresh = λ image told. is.fresh image (looks.same ∙ told);
  kept = λ hides. is.kept (hides_then words old mid looks hides);
  of = is.of;
  shape = is.shape;
  documents_are = is.documents_are;
}
finds_then words schema old mid new (Err faults.NoMemory) looks is = tt
finds_then words schema old mid new (Err faults.DiskFault) looks is = tt
finds_then words schema old mid new (Err (faults.Damaged damage)) looks is = λ image told. is image (looks.same ∙ told)

pub leaves_looked : {D : Type 0} (words : DiskWords D) (schema : Schema) (old new : D) → OnlyReads words old new → LeavesBegun words schema old new
leaves_looked words schema old new looks = record {
  later = looks.later;
  now = λ x left. inl (looks.now x left);
  since = λ t x le left. ⊎_elim (λ was. inl was) (λ here. inr (inl here)) (looks.since t x le left);
}

begun_same : {schema : Schema} {old mid : Option Image} {x : Image} → mid ≡ old → IsBegun schema mid x → IsBegun schema old x
begun_same {schema} {old} {mid} {x} same begun = subst (λ (t : Option Image). IsBegun schema t x) same begun

pub leaves_then : {D : Type 0} (words : DiskWords D) (schema : Schema) (old mid new : D) → OnlyReads words old mid → (HidesNothing words mid → LeavesBegun words schema mid new) → HidesNothing words old → LeavesBegun words schema old new
leaves_then words schema old mid new looks leaves hides =
    let second = leaves (hides_then words old mid looks hides) in
    record {
      later = omega (arith, looks.later, second.later);
      now = λ x left. ⊎_elim (λ here. inl (looks.now x here)) (λ begun. inr (begun_same looks.same begun)) (second.now x left);
      since = λ t x le left.
          ⊎_elim
          (λ was. ⊎_elim (λ before. inl before) (λ here. inr (inl here)) (looks.since t x le was))
          (λ later. inr (⊎_elim (λ here. inl (looks.now x here)) (λ begun. inr (begun_same looks.same begun)) later))
          (second.since t x (omega (arith, le, looks.later)) left);
    }
