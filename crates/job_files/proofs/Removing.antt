-- A file that no state names is removed.
use Rattle.std.proofs.Common.{◌≡◌, ℕ, ◌≤◌, true, false, List, Option, sym, subst}
use Rattle.doc_types.specs.declared.schema.Schema.{Schema}
use Rattle.chunk_store.specs.Images.{Image, Both, Changes}
use Rattle.chunk_store.specs.CrashModel.{MayVanish}
use Rattle.chunk_store.specs.Calls.{Crashes}
use Rattle.chunk_store.specs.declared.disk.Disk.{Ghosts as DiskWords}
use Rattle.chunk_store.proofs.Told.{told_by}
use Rattle.root_slots.specs.declared.state.RootState.{RootState}
use Rattle.step_history.specs.History.{Base, Step}
use Rattle.store_steps.specs.declared.files.Files.{Files}
use Rattle.job_files.specs.Jobs.{names}
use Rattle.store_steps.specs.Doubts.{Doubted}
use Rattle.store_steps.specs.Kept.{GivesEither, IsImage, IsKept, LeavesOnly}
use Rattle.store_steps.proofs.Giving.{image_gives}
use Rattle.store_steps.proofs.Leaving.{leaves_by}
use Rattle.job_files.proofs.Aside.{image_unnamed}

module _ {D : Type 0} (words : DiskWords D) (schema : Schema) (base : Base) (steps : List Step) (waiting : Option Step) (disk : D) (known : Files) (kept : IsKept words schema base steps waiting disk known) (sure : known.sure ≡ true)
    (file : ℕ) (two : 2 ≤ file) (unnamed : names known.state file ≡ false) where
  none : names kept.dir.state file ≡ false
  none = subst (λ (s : RootState). names s file ≡ false) kept.state_is unnamed

  step : {R : Option (List ℕ) → Option (List ℕ) → Type 0} (d x : Image) → Changes file R d x → IsImage schema kept.dir kept.number kept.doubt known.root known.log kept.next d → IsImage schema kept.dir kept.number kept.doubt known.root known.log kept.next x
  step {R} d x changes image =
      let is = kept.sure sure in
      subst (λ (q : Option Doubted). IsImage schema kept.dir kept.number q known.root known.log kept.next x) (sym is)
      (image_unnamed schema kept.dir kept.number known.root known.log kept.next file d x two none changes.others (subst (λ (q : Option Doubted). IsImage schema kept.dir kept.number q known.root known.log kept.next d) is image))

  pub kept_without : (new : D) (R : Option (List ℕ) → Option (List ℕ) → Type 0) → Both (Changes file R) (words.told disk) (words.told new) → Crashes words disk new (Changes file MayVanish) → IsKept words schema base steps waiting new known
  kept_without new R told crashes = record {
    dir = kept.dir;
    number = kept.number;
    doubt = kept.doubt;
    next = kept.next;
    start = kept.start;
    start_low = kept.start_low;
    born = kept.born;
    state_is = kept.state_is;
    state = kept.state;
    made = kept.made;
    in_order = kept.in_order;
    reaches = kept.reaches;
    file = kept.file;
    staged = kept.staged;
    quiet = kept.quiet;
    last = kept.last;
    has = kept.has;
    may = kept.may;
    sure = kept.sure;
    told = told_by {R = Changes file R} {P = IsImage schema kept.dir kept.number kept.doubt known.root known.log kept.next} {Q = IsImage schema kept.dir kept.number kept.doubt known.root known.log kept.next} _ _ told kept.told (λ d x image changes. step d x changes image);
    left = λ x may. let from = crashes.now x may in step from.0 x from.2 (kept.left from.0 from.1);
  }

  pub removing_leaves : (new : D) → ((x : Image) → words.may_have_left disk (words.clock disk) x → words.may_leave disk x) → Crashes words disk new (Changes file MayVanish) → LeavesOnly words disk new (GivesEither schema base steps waiting)
  removing_leaves new only crashes =
      let now : (x : Image) → IsImage schema kept.dir kept.number kept.doubt known.root known.log kept.next x → GivesEither schema base steps waiting x =
      λ x image. image_gives schema base kept.start steps waiting known.next_file kept.dir kept.number kept.doubt known.root known.log kept.next x kept.state.newer.no_slot kept.in_order kept.reaches kept.may kept.quiet known.log kept.has image in
      leaves_by words disk new {I = IsImage schema kept.dir kept.number kept.doubt known.root known.log kept.next} {R = Changes file MayVanish} only kept.left now (λ d x image changes. now x (step d x changes image)) crashes
