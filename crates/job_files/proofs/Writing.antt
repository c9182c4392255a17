-- Files that no state names are written.
use Rattle.std.proofs.Common.{◌≡◌, ℕ, ◌+◌, ◌≤◌, List, [], ◌∷◌, Option, Some, None, refl, sym, ◌∙◌, subst, arith}
use Rattle.std.specs.Prelude.{IfSome}
use Rattle.doc_types.specs.declared.schema.Schema.{Schema}
use Rattle.chunk_store.specs.Images.{Image, Told, Both, Changes}
use Rattle.chunk_store.specs.Calls.{Crashes, IsSynced}
use Rattle.chunk_store.specs.declared.disk.Disk.{Ghosts as DiskWords}
use Rattle.chunk_store.proofs.Told.{told_after, told_by}
use Rattle.chunk_store.proofs.Weaker.{both_by, left_by}
use Rattle.std.proofs.lemmas.List.Elements.{All-nil}
use Rattle.gate_log.specs.declared.log.GateLog.{GateLog}
use Rattle.gate_log.specs.Logs.{Fits, Stands as LogStands, quiet_log}
use Rattle.root_slots.specs.Roots.{Steps}
use Rattle.step_history.specs.History.{Base, Step}
use Rattle.store_steps.specs.declared.files.Files.{Files}
use Rattle.store_steps.specs.Directory.{Directory}
use Rattle.job_files.specs.Jobs.{Anything, AreWritten, Becomes, HasNewFiles, IsBegun, log_file}
use Rattle.store_steps.specs.Doubts.{Doubted, MayStand}
use Rattle.store_steps.specs.Kept.{Gives, IsImage, IsKept, LeavesOnly}
use Rattle.store_steps.proofs.Keeping.{at_rest, gives}
use Rattle.store_steps.proofs.Leaving.{leaves_by}
use Rattle.job_files.proofs.Aside.{image_aside}

pub may_with : (schema : Schema) (files more : ℕ) (dir : Directory) (doubt : Option Doubted) → files ≤ more → IfSome doubt (MayStand schema files dir) → IfSome doubt (MayStand schema more dir)
may_with schema files more dir None le may = tt
may_with schema files more dir (Some d) le may = record { state = may.state; older = may.older; made = omega (arith, may.made, le); in_order = may.in_order; reaches = may.reaches; rows = may.rows; number = may.number }

-- files from a greater number on aren't named either
pub raised : {D : Type 0} (words : DiskWords D) (schema : Schema) (base : Base) (steps : List Step) (waiting : Option Step) (disk : D) (known : Files) (more : ℕ) → known.next_file ≤ more → IsKept words schema base steps waiting disk known → IsKept words schema base steps waiting disk (record known { next_file = more })
raised words schema base steps waiting disk known more le kept = record {
  dir = kept.dir;
  number = kept.number;
  doubt = kept.doubt;
  next = kept.next;
  start = kept.start;
  start_low = kept.start_low;
  born = kept.born;
  state_is = kept.state_is;
  state = kept.state;
  made = omega (arith, kept.made, le);
  in_order = kept.in_order;
  reaches = kept.reaches;
  file = kept.file;
  staged = kept.staged;
  quiet = kept.quiet;
  last = kept.last;
  has = kept.has;
  may = may_with schema known.next_file more kept.dir kept.doubt le kept.may;
  sure = kept.sure;
  told = kept.told;
  left = kept.left;
}

module _ {D : Type 0} (words : DiskWords D) (schema : Schema) (base : Base) (steps : List Step) (waiting : Option Step) (disk : D) (known : Files) (kept : IsKept words schema base steps waiting disk known) where
  aside : {R : Option (List ℕ) → Option (List ℕ) → Type 0} (file : ℕ) → known.next_file ≤ file → (d x : Image) → Changes file R d x → IsImage schema kept.dir kept.number kept.doubt known.root known.log kept.next d → IsImage schema kept.dir kept.number kept.doubt known.root known.log kept.next x
  aside {R} file le d x changes image = image_aside schema kept.dir kept.number kept.doubt known.next_file file known.root known.log kept.next d x kept.state kept.made kept.may le changes.others image

  -- a call wrote such a file
  pub kept_aside : (new : D) {R : Option (List ℕ) → Option (List ℕ) → Type 0} (file : ℕ) → known.next_file ≤ file → Both (Changes file R) (words.told disk) (words.told new) → Crashes words disk new (Changes file R) → IsKept words schema base steps waiting new known
  kept_aside new {R} file le told crashes = record {
    dir = kept.dir;
    number = kept.number;
    doubt = kept.doubt;
    next = kept.next;
    start = kept.start;
    start_low = kept.start_low;
    born = kept.born;
    state_is = kept.state_is;
    state = kept.state;
    made = kept.made;
    in_order = kept.in_order;
    reaches = kept.reaches;
    file = kept.file;
    staged = kept.staged;
    quiet = kept.quiet;
    last = kept.last;
    has = kept.has;
    may = kept.may;
    sure = kept.sure;
    told = told_by {R = Changes file R} {P = IsImage schema kept.dir kept.number kept.doubt known.root known.log kept.next} {Q = IsImage schema kept.dir kept.number kept.doubt known.root known.log kept.next} _ _ told kept.told (λ d x image changes. aside file le d x changes image);
    left = λ x may. let from = crashes.now x may in aside file le from.0 x from.2 (kept.left from.0 from.1);
  }

module _ {D : Type 0} (words : DiskWords D) (schema : Schema) (base : Base) (steps : List Step) (disk : D) (known : Files) (kept : IsKept words schema base steps None disk known) (none : known.log.staged ≡ None) where
  pub leaves_aside : (new : D) {R : Option (List ℕ) → Option (List ℕ) → Type 0} (file : ℕ) → known.next_file ≤ file → ((x : Image) → words.may_have_left disk (words.clock disk) x → words.may_leave disk x) → Crashes words disk new (Changes file R) → LeavesOnly words disk new (Gives schema base steps)
  leaves_aside new {R} file le only crashes =
      let now : (x : Image) → IsImage schema kept.dir kept.number kept.doubt known.root known.log kept.next x → Gives schema base steps x = λ x image. gives words schema base steps disk known kept none x (at_rest words schema base steps disk known kept none x image) in
      leaves_by words disk new {I = IsImage schema kept.dir kept.number kept.doubt known.root known.log kept.next} {R = Changes file R} only kept.left now
      (λ d x image changes. now x (aside words schema base steps None disk known kept file le d x changes image)) crashes

-- ---- what stands in the new files

-- the log's file isn't one from before
pub log_low : (file : ℕ) (chunk : Option (List ℕ)) → file ≤ log_file file chunk
log_low file None = omega arith
log_low file (Some bytes) = omega arith

new_files : (chunk : Option (List ℕ)) (file : ℕ) (d e x : Image) → Changes file (Becomes chunk) d e → Changes (log_file file chunk) (IsBegun (log_file file chunk)) e x → HasNewFiles chunk file x
new_files None file d e x first second = record { chunk_is = tt; log = second.here }
new_files (Some bytes) file d e x first second = record {
  chunk_is = second.others file (λ (same : file ≡ file + 1). absurd (omega (arith, same))) ∙ first.here;
  log = second.here;
}

pub both_written : {D : Type 0} (words : DiskWords D) (chunk : Option (List ℕ)) (file : ℕ) (old mid new : D) → Steps words (Changes file (Becomes chunk)) old mid → Steps words (Changes (log_file file chunk) (IsBegun (log_file file chunk))) mid new → AreWritten words chunk file new
both_written words chunk file old mid new first second = record {
  told = told_by {R = Changes (log_file file chunk) (IsBegun (log_file file chunk))} {P = λ e. (d : Image) × Changes file (Becomes chunk) d e} {Q = HasNewFiles chunk file} (words.told mid) (words.told new) second.told
      (told_after {R = Changes file (Becomes chunk)} {Q = λ e. (d : Image) × Changes file (Becomes chunk) d e} (words.told old) (words.told mid) first.told (λ d e changes. (d, changes)))
      (λ e x before changes. new_files chunk file before.0 e x before.1 changes);
  left = λ x may. let e = second.left x may in let d = first.left e.0 e.1 in new_files chunk file d.0 e.0 x d.2 e.2;
}

-- ---- one file that is written for good

pub remade_left : {D : Type 0} (words : DiskWords D) (file : ℕ) (bytes : List ℕ) (old new : D) → Both (Changes file (λ a b. b ≡ Some bytes)) (words.told old) (words.told new) → IsSynced file (words.told new) (words.may_leave new)
    → ((x : Image) → words.may_leave new x → (image : Image) × (words.told new ≡ Some image)) → Crashes words old new (Changes file Anything) → Steps words (Changes file (λ a b. b ≡ Some bytes)) old new
remade_left words file bytes old new told synced tells crashes =
    let now : Told (λ image. image file ≡ Some bytes) (words.told new) = told_after {R = Changes file (λ a b. b ≡ Some bytes)} {Q = λ image. image file ≡ Some bytes} (words.told old) (words.told new) told (λ d x changes. changes.here) in
    record {
      told = told;
      left = left_by file {Q = λ a b. b ≡ Some bytes} {R = Anything} (words.told old) (words.told new) (words.may_leave old) (words.may_leave new) tells synced crashes.now (λ d i x left is anything same. same ∙ now i is);
    }

pub begun_left : {D : Type 0} (words : DiskWords D) (file : ℕ) (log : GateLog) (old new : D) → log ≡ quiet_log file 0 None → Both (Changes file (λ a b. LogStands log [] None b)) (words.told old) (words.told new) → IsSynced file (words.told new) (words.may_leave new)
    → ((x : Image) → words.may_leave new x → (image : Image) × (words.told new ≡ Some image)) → Crashes words old new (Changes file Anything) → Steps words (Changes file (IsBegun file)) old new
begun_left words file log old new is made synced tells crashes =
    let told : Both (Changes file (IsBegun file)) (words.told old) (words.told new) = subst (λ (l : GateLog). Both (Changes file (λ a b. LogStands l [] None b)) (words.told old) (words.told new)) is made in
    let now : Told (λ image. LogStands (quiet_log file 0 None) [] None (image file)) (words.told new) = told_after {R = Changes file (IsBegun file)} {Q = λ image. LogStands (quiet_log file 0 None) [] None (image file)} (words.told old) (words.told new) told (λ d x changes. changes.here) in
    record {
      told = told;
      left = left_by file {Q = IsBegun file} {R = Anything} (words.told old) (words.told new) (words.may_leave old) (words.may_leave new) tells synced crashes.now (λ d i x left is anything same. subst (λ (f : Option (List ℕ)). LogStands (quiet_log file 0 None) [] None f) (sym same) (now i is));
    }

-- a closed gate alone is a log without a record
pub made_log : {D : Type 0} (words : DiskWords D) (file : ℕ) (old new : D) → Both (Changes file (λ a b. b ≡ Some (0 ∷ []))) (words.told old) (words.told new) → Both (Changes file (λ a b. LogStands (quiet_log file 0 None) [] None b)) (words.told old) (words.told new)
made_log words file old new made = both_by {R = Changes file (λ a b. b ≡ Some (0 ∷ []))} {S = Changes file (λ a b. LogStands (quiet_log file 0 None) [] None b)} (words.told old) (words.told new)
    (λ d x is changes. record { here = subst (λ (f : Option (List ℕ)). LogStands (quiet_log file 0 None) [] None f) (sym changes.here) (empty_log file); others = changes.others }) made
  where
    empty_log : (file : ℕ) → LogStands (quiet_log file 0 None) [] None (Some (0 ∷ []))
    empty_log file = record { records_are = record { fit = All-nil Fits; numbers = tt }; end = refl; last = refl; staged = refl; gate = 0; rest = []; is = refl; closed = λ (_ : _). (λ (e : 0 ≡ 1). absurd (omega (arith, e))); behind = tt }
