-- How a disk keeps a history from call to call.
use Rattle.std.proofs.Common.{◌≡◌, ◌≢◌, ⊎_elim, ℕ, ◌+◌, ◌-◌, ◌<◌, ◌^◌, List, [], ◌∷◌, ◌++◌, map, min, true, false, Option, Some, None, refl, sym, ◌∙◌, ap, subst, arith, length}
use Rattle.std.specs.List.{AllZip}
use Rattle.std.specs.Option.{option_map, is_some}
use Rattle.std.proofs.lemmas.List.{map-append}
use Rattle.doc_types.specs.declared.documents.DocRow.{DocRow}
use Rattle.doc_types.specs.declared.schema.Schema.{Schema}
use Rattle.doc_types.specs.Commits.{Entry}
use Rattle.doc_types.specs.Snapshots.{SnapshotValue}
use Rattle.chunk_store.specs.Images.{Image, Told, Both, Changes}
use Rattle.chunk_store.specs.Calls.{Crashes, IsSynced}
use Rattle.chunk_store.specs.declared.disk.Disk.{Ghosts as DiskWords}
use Rattle.chunk_store.proofs.Told.{told_by}
use Rattle.gate_log.specs.declared.records.LogRecord.{LogRecord}
use Rattle.gate_log.specs.declared.log.GateLog.{GateLog}
use Rattle.gate_log.specs.Logs.{Stands as LogStands, MayFollow, last_number, staging, opening, opened, opened_by}
use Rattle.gate_log.proofs.OneMore.{last-push}
use Rattle.root_slots.specs.declared.state.RootState.{RootState}
use Rattle.step_history.specs.History.{Base, Step, Commit, CommitFollows, last_snapshot}
use Rattle.step_history.specs.Logs.{log_at, record_length}
use Rattle.step_history.specs.Places.{disk_chunks}
use Rattle.step_history.proofs.LogEnds as ends
use Rattle.step_line.specs.Lines.{with_waiting}
use Rattle.store_steps.specs.Batches.{Batch, IsBatchOf, batch_of, record_of}
use Rattle.store_steps.specs.Directory.{Directory, IsChunkFile, directory_number}
use Rattle.store_steps.specs.declared.files.Files.{Files}
use Rattle.store_steps.specs.Grown.{Start, grown, through_at}
use Rattle.store_steps.proofs.Growing.{grown_commit, through_commit}
use Rattle.store_steps.specs.Kept.{Gives, GivesEither, Has, HasAll, IsImage, IsKept, IsStaged, LeavesOnly, mark}
use Rattle.store_steps.proofs.Giving.{image_gives, staged_number, staged_says}
use Rattle.store_steps.proofs.Lengths.{record_size}
use Rattle.store_steps.proofs.Leaving.{leaves_by}
use Rattle.store_steps.proofs.Naming.{with_newer}
use Rattle.store_steps.proofs.Taking.{may_more, next_follows, order_more, reaches_more, with_batch}

-- a record is staged exactly where a batch is next
pub some_next : (staged : Option (ℕ × ℕ)) (next : Option Batch) → staged ≡ option_map mark next → is_some staged ≡ true → (b : Batch) × (next ≡ Some b)
some_next staged None is some = absurd (cc (is, some))
some_next staged (Some b) is some = (b, refl)

pub none_next : (staged : Option (ℕ × ℕ)) (next : Option Batch) → staged ≡ option_map mark next → staged ≡ None → next ≡ None
none_next staged None is none = refl
none_next staged (Some b) is none = absurd (cc (is, none))

-- what is on the disk for good is as a read gives it
synced_newer : (file : ℕ) (dir : Directory) (told : Option Image) (may : Image → Type 0) (log : GateLog) (records : List LogRecord) (next : Option LogRecord) → file ≡ dir.state.newer → Told (λ image. LogStands log records next (image dir.state.newer)) told
    → IsSynced file told may → ((x : Image) → may x → (image : Image) × (told ≡ Some image)) → (x : Image) → may x → LogStands log records next (x dir.state.newer)
synced_newer file dir told may log records next same stands synced tells x left =
    let i = tells x left in
    let is : x dir.state.newer ≡ i.0 dir.state.newer = subst (λ (f : ℕ). x f ≡ i.0 f) same (synced i.0 i.1 x left) in
    subst (λ (f : Option (List ℕ)). LogStands log records next f) (sym is) (stands i.0 i.1)

others_are : (file newer : ℕ) {R : Option (List ℕ) → Option (List ℕ) → Type 0} (d x : Image) → file ≡ newer → Changes file R d x → (f : ℕ) → f ≢ newer → x f ≡ d f
others_are file newer {R} d x is changes = (subst (λ (f : ℕ). Changes f R d x) is changes).others

here_is : (file newer : ℕ) {R : Option (List ℕ) → Option (List ℕ) → Type 0} (d x : Image) → file ≡ newer → Changes file R d x → R (d newer) (x newer)
here_is file newer {R} d x is changes = (subst (λ (f : ℕ). Changes f R d x) is changes).here

-- the chunks of the directory are those of the last snapshot, that of the step that waits too
chunks_said : (schema : Schema) (base : Base) (start : Start) (steps : List Step) (waiting : Option Step) (log : GateLog) (dir : Directory) (next : Option Batch) → Has schema base start steps waiting log dir next → dir.chunks ≡ disk_chunks (last_snapshot base (with_waiting steps waiting))
chunks_said schema base start steps waiting log dir None has = has.says.chunks
chunks_said schema base start steps waiting log dir (Some b) staged = (staged_says staged).chunks

module _ {D : Type 0} (words : DiskWords D) (schema : Schema) (base : Base) (steps : List Step) (waiting : Option Step) (disk : D) (files : Files) (kept : IsKept words schema base steps waiting disk files) where
  -- the images of the present
  pub gives_now : (x : Image) → words.may_leave disk x → GivesEither schema base steps waiting x
  gives_now x may = image_gives schema base kept.start steps waiting files.next_file kept.dir kept.number kept.doubt files.root files.log kept.next x kept.state.newer.no_slot kept.in_order kept.reaches kept.may kept.quiet files.log kept.has (kept.left x may)

  -- the files of the own state's chunks are images of those of the last snapshot
  pub chunks_stand : Told (λ image. AllZip (IsChunkFile schema image) files.state.chunks (disk_chunks (last_snapshot base (with_waiting steps waiting)))) (words.told disk)
  chunks_stand image is =
      let said = chunks_said schema base kept.start steps waiting files.log kept.dir kept.next kept.has in
      subst (λ (s : RootState). AllZip (IsChunkFile schema image) s.chunks (disk_chunks (last_snapshot base (with_waiting steps waiting)))) (sym kept.state_is)
      (subst (λ (chunks : List (List DocRow)). AllZip (IsChunkFile schema image) kept.dir.state.chunks chunks) said (kept.told image is).chunks)

  -- the step that waits takes effect where its record isn't staged any more
  pub published : files.log.staged ≡ None → IsKept words schema base (with_waiting steps waiting) None disk files
  published none =
      let next : kept.next ≡ None = none_next files.log.staged kept.next kept.staged none in
      record {
        dir = kept.dir;
        number = kept.number;
        doubt = kept.doubt;
        next = None;
        start = kept.start;
        start_low = kept.start_low;
        born = kept.born;
        state_is = kept.state_is;
        state = kept.state;
        made = kept.made;
        in_order = kept.in_order;
        reaches = kept.reaches;
        file = kept.file;
        staged = none;
        quiet = λ (_ : _). kept.quiet next;
        last = kept.last;
        has = subst (λ (n : Option Batch). Has schema base kept.start steps waiting files.log kept.dir n) next kept.has;
        may = kept.may;
        sure = kept.sure;
        told = λ image is. subst (λ (n : Option Batch). IsImage schema kept.dir kept.number kept.doubt files.root files.log n image) next (kept.told image is);
        left = λ x may. subst (λ (n : Option Batch). IsImage schema kept.dir kept.number kept.doubt files.root files.log n x) next (kept.left x may);
      }

  -- a record is staged: a file stands so
  pub stands_staged : is_some files.log.staged ≡ true → Told (λ image. (records : List LogRecord) × (r : LogRecord) × LogStands files.log records (Some r) (image files.log.file)) (words.told disk)
  stands_staged some image is =
      let next = some_next files.log.staged kept.next kept.staged some in
      let stands = (kept.told image is).newer in (
        map record_of kept.dir.newer,
        record_of next.0,
        subst (λ (f : ℕ). LogStands files.log (map record_of kept.dir.newer) (Some (record_of next.0)) (image f)) (sym kept.file)
            (subst (λ (n : Option Batch). LogStands files.log (map record_of kept.dir.newer) (option_map record_of n) (image kept.dir.state.newer)) next.1 stands),
      )

  abbrev Opens : Option (List ℕ) → Option (List ℕ) → Type 0
  Opens old new = (records : List LogRecord) (r : LogRecord) → LogStands files.log records (Some r) old → LogStands (opening files.log) records (Some r) new

  -- one image while the gate is being opened
  opens : (b : Batch) → kept.next ≡ Some b → (d x : Image) → Changes files.log.file Opens d x → IsImage schema kept.dir kept.number kept.doubt files.root files.log kept.next d → IsImage schema kept.dir kept.number kept.doubt files.root (opening files.log) (Some b) x
  opens b is d x changes old =
      let image : IsImage schema kept.dir kept.number kept.doubt files.root files.log (Some b) d = subst (λ (n : Option Batch). IsImage schema kept.dir kept.number kept.doubt files.root files.log n d) is old in
      with_newer schema kept.dir kept.dir.newer kept.number kept.doubt files.next_file files.root files.log (opening files.log) (Some b) (Some b) d x kept.state kept.may (others_are files.log.file kept.dir.state.newer d x kept.file changes) image
      (here_is files.log.file kept.dir.state.newer d x kept.file changes (map record_of kept.dir.newer) (record_of b) image.newer)

  -- while the gate is being opened, a crash leaves one of the two
  pub opening_leaves : (new : D) → is_some files.log.staged ≡ true → ((x : Image) → words.may_have_left disk (words.clock disk) x → words.may_leave disk x)
      → Crashes words disk new (Changes files.log.file Opens) → LeavesOnly words disk new (GivesEither schema base steps waiting)
  opening_leaves new some only crashes =
      let next = some_next files.log.staged kept.next kept.staged some in
      leaves_by words disk new {I = IsImage schema kept.dir kept.number kept.doubt files.root files.log kept.next} only kept.left
      (λ x image. image_gives schema base kept.start steps waiting files.next_file kept.dir kept.number kept.doubt files.root files.log kept.next x kept.state.newer.no_slot kept.in_order kept.reaches kept.may kept.quiet files.log kept.has image)
      (λ d x image changes. image_gives schema base kept.start steps waiting files.next_file kept.dir kept.number kept.doubt files.root (opening files.log) (Some next.0) x kept.state.newer.no_slot kept.in_order kept.reaches kept.may (λ no. absurd (cc (no))) files.log
      (subst (λ (n : Option Batch). Has schema base kept.start steps waiting files.log kept.dir n) next.1 kept.has) (opens next.0 next.1 d x changes image)) crashes

  -- the gate may not be open
  pub not_opened : (new : D) (after : GateLog) → is_some files.log.staged ≡ true → after ≡ opening files.log → Both (Changes files.log.file Opens) (words.told disk) (words.told new) → Crashes words disk new (Changes files.log.file Opens)
      → IsKept words schema base steps waiting new (record files { log = after })
  not_opened new after some is told crashes =
      let next = some_next files.log.staged kept.next kept.staged some in
      let staged : IsStaged schema base kept.start steps waiting files.log kept.dir next.0 = subst (λ (n : Option Batch). Has schema base kept.start steps waiting files.log kept.dir n) next.1 kept.has in
      subst (λ (l : GateLog). IsKept words schema base steps waiting new (record files { log = l })) (sym is)
      (record {
        dir = kept.dir;
        number = kept.number;
        doubt = kept.doubt;
        next = Some next.0;
        start = kept.start;
        start_low = kept.start_low;
        born = kept.born;
        state_is = kept.state_is;
        state = kept.state;
        made = kept.made;
        in_order = kept.in_order;
        reaches = kept.reaches;
        file = kept.file;
        staged = kept.staged ∙ ap (option_map mark) next.1;
        quiet = λ no. absurd (cc (no));
        last = kept.last;
        has = record { says = staged.says; end = staged.end; grown_is = staged.grown_is; through_is = staged.through_is; entry = staged.entry; snapshot = staged.snapshot; waits = staged.waits; is = staged.is; follows = staged.follows; of = staged.of; room = staged.room };
        may = kept.may;
        sure = kept.sure;
        told = told_by _ _ told kept.told (λ d x image changes. opens next.0 next.1 d x changes image);
        left = λ x may. let from = crashes.now x may in opens next.0 next.1 from.0 x from.2 (kept.left from.0 from.1);
      })

  abbrev Opened : Option (List ℕ) → Option (List ℕ) → Type 0
  Opened old new = (records : List LogRecord) (r : LogRecord) → LogStands files.log records (Some r) old → LogStands (opened files.log) (records ++ r ∷ []) None new

  -- the gate is open for good
  pub was_opened : (new : D) (after : GateLog) → is_some files.log.staged ≡ true → after ≡ opened files.log → Both (Changes files.log.file Opened) (words.told disk) (words.told new)
      → IsSynced files.log.file (words.told new) (words.may_leave new) → ((x : Image) → words.may_leave new x → (image : Image) × (words.told new ≡ Some image)) → Crashes words disk new (Changes files.log.file Opens)
      → IsKept words schema base steps waiting new (record files { log = after })
  was_opened new after some is told synced tells crashes =
      let next = some_next files.log.staged kept.next kept.staged some in
      let b = next.0 in
      let staged : IsStaged schema base kept.start steps waiting files.log kept.dir b = subst (λ (n : Option Batch). Has schema base kept.start steps waiting files.log kept.dir n) next.1 kept.has in
      let dir = with_batch kept.dir b in
      let number_is : b.number ≡ directory_number kept.dir + 1 = staged_number staged in
      let mark_is : files.log.staged ≡ Some (mark b) = kept.staged ∙ ap (option_map mark) next.1 in
      let log_is : opened files.log ≡ opened_by files.log (Some (mark b)) = ap (opened_by files.log) mark_is in
      let was : (d : Image) → IsImage schema kept.dir kept.number kept.doubt files.root files.log kept.next d → IsImage schema kept.dir kept.number kept.doubt files.root files.log (Some b) d =
      λ d old. subst (λ (n : Option Batch). IsImage schema kept.dir kept.number kept.doubt files.root files.log n d) next.1 old in
      let stands : (d x : Image) → IsImage schema kept.dir kept.number kept.doubt files.root files.log kept.next d → Changes files.log.file Opened d x → LogStands (opened files.log) (map record_of dir.newer) None (x kept.dir.state.newer) =
      λ d x old changes. subst (λ (l : List LogRecord). LogStands (opened files.log) l None (x kept.dir.state.newer)) (sym (map-append record_of kept.dir.newer (b ∷ [])))
      (here_is files.log.file kept.dir.state.newer d x kept.file changes (map record_of kept.dir.newer) (record_of b) (was d old).newer) in
      let image : (d x : Image) → IsImage schema kept.dir kept.number kept.doubt files.root files.log kept.next d → Changes files.log.file Opened d x → IsImage schema dir kept.number kept.doubt files.root (opened files.log) None x =
      λ d x old changes. with_newer schema kept.dir dir.newer kept.number kept.doubt files.next_file files.root files.log (opened files.log) (Some b) None d x kept.state kept.may (others_are files.log.file kept.dir.state.newer d x kept.file changes) (was d old) (stands d x old changes) in
      let told_now : Told (IsImage schema dir kept.number kept.doubt files.root (opened files.log) None) (words.told new) = told_by _ _ told kept.told image in
      let all : log_at base (steps ++ Commit staged.entry staged.snapshot ∷ []) ≡ log_at base (with_waiting steps waiting) = ap (λ (w : Option Step). log_at base (with_waiting steps w)) (sym staged.waits) in
      let size : 13 + length (record_of b).payload ≡ record_length staged.entry = ap (λ (c : Batch). 13 + length (record_of c).payload) staged.is ∙ record_size staged.entry in
      let fits : min (files.log.end + (13 + length (record_of b).payload)) (2 ^ 64 - 1) ≡ files.log.end + (13 + length (record_of b).payload) = omega (arith, staged.room) in
      let end : (opened files.log).end ≡ log_at base (with_waiting steps waiting) =
      ap (λ (l : GateLog). l.end) log_is ∙ fits ∙ omega (arith, staged.end, size, ends.commit base steps staged.entry staged.snapshot) ∙ all in
      let more : dir.newer ≡ grown kept.start.batches (with_waiting steps waiting) =
      ap (λ (l : List Batch). l ++ b ∷ []) staged.grown_is ∙ ap (λ (c : Batch). grown kept.start.batches steps ++ c ∷ []) staged.is ∙ sym (grown_commit kept.start.batches steps staged.entry staged.snapshot)
      ∙ ap (λ (w : Option Step). grown kept.start.batches (with_waiting steps w)) (sym staged.waits) in
      let through : dir.state.through ≡ through_at kept.start.through (with_waiting steps waiting) =
      staged.through_is ∙ sym (through_commit kept.start.through steps staged.entry staged.snapshot) ∙ ap (λ (w : Option Step). through_at kept.start.through (with_waiting steps w)) (sym staged.waits) in
      subst (λ (l : GateLog). IsKept words schema base steps waiting new (record files { log = l })) (sym is)
      (record {
        dir = dir;
        number = kept.number;
        doubt = kept.doubt;
        next = None;
        start = kept.start;
        start_low = kept.start_low;
        born = kept.born;
        state_is = kept.state_is;
        state = kept.state;
        made = kept.made;
        in_order = order_more schema kept.dir b kept.in_order kept.reaches number_is staged.of;
        reaches = reaches_more kept.dir b kept.reaches number_is;
        file = ap (λ (l : GateLog). l.file) log_is ∙ kept.file;
        staged = ap (λ (l : GateLog). l.staged) log_is;
        quiet = λ (_ : _). ap (λ (l : GateLog). l.pending) log_is;
        last = ap (λ (l : GateLog). l.last) log_is ∙ sym (ap last_number (map-append record_of kept.dir.newer (b ∷ [])) ∙ last-push (map record_of kept.dir.newer) (record_of b));
        has = record { says = staged_says staged; end = end; grown_is = more; through_is = through };
        may = may_more schema files.next_file kept.dir kept.doubt b kept.may number_is staged.of;
        sure = kept.sure;
        told = told_now;
        left = λ x may.
            let from = crashes.now x may in
            with_newer schema kept.dir dir.newer kept.number kept.doubt files.next_file files.root files.log (opened files.log) (Some b) None from.0 x kept.state kept.may (others_are files.log.file kept.dir.state.newer from.0 x kept.file from.2) (was from.0 (kept.left from.0 from.1))
            (synced_newer files.log.file kept.dir (words.told new) (words.may_leave new) (opened files.log) (map record_of dir.newer) None kept.file (λ i is. (told_now i is).newer) synced tells x may);
      })

module _ {D : Type 0} (words : DiskWords D) (schema : Schema) (base : Base) (steps : List Step) (disk : D) (files : Files) (kept : IsKept words schema base steps None disk files) (none : files.log.staged ≡ None) where
  no_next : kept.next ≡ None
  no_next = none_next files.log.staged kept.next kept.staged none

  pub at_rest : (x : Image) → IsImage schema kept.dir kept.number kept.doubt files.root files.log kept.next x → IsImage schema kept.dir kept.number kept.doubt files.root files.log None x
  at_rest x image = subst (λ (n : Option Batch). IsImage schema kept.dir kept.number kept.doubt files.root files.log n x) no_next image

  pub has_all : HasAll base kept.start steps files.log kept.dir
  has_all = subst (λ (n : Option Batch). Has schema base kept.start steps None files.log kept.dir n) no_next kept.has

  pub is_quiet : files.log.pending ≡ false
  is_quiet = kept.quiet no_next

  pub may_follow : (number : ℕ) → number ≡ (last_snapshot base steps).number + 1 → MayFollow files.log.last number
  may_follow number is =
      let next : directory_number kept.dir + 1 ≡ number = omega (arith, has_all.says.number, is) in
      subst (λ (l : Option ℕ). MayFollow l number) (sym kept.last) (subst (λ (n : ℕ). MayFollow (last_number (map record_of kept.dir.newer)) n) next (next_follows kept.dir kept.reaches))

  pub stands_at_rest : Told (λ image. (records : List LogRecord) × LogStands files.log records None (image files.log.file)) (words.told disk)
  stands_at_rest image is = (map record_of kept.dir.newer, subst (λ (f : ℕ). LogStands files.log (map record_of kept.dir.newer) None (image f)) (sym kept.file) (at_rest image (kept.told image is)).newer)

  abbrev Stays : Option (List ℕ) → Option (List ℕ) → Type 0
  Stays old new = (records : List LogRecord) → LogStands files.log records None old → LogStands files.log records None new

  stays : (d x : Image) → Changes files.log.file Stays d x → IsImage schema kept.dir kept.number kept.doubt files.root files.log kept.next d → IsImage schema kept.dir kept.number kept.doubt files.root files.log None x
  stays d x changes old =
      let image = at_rest d old in
      with_newer schema kept.dir kept.dir.newer kept.number kept.doubt files.next_file files.root files.log files.log None None d x kept.state kept.may (others_are files.log.file kept.dir.state.newer d x kept.file changes) image
      (here_is files.log.file kept.dir.state.newer d x kept.file changes (map record_of kept.dir.newer) image.newer)

  -- such images give the documents after the steps
  pub gives : (x : Image) → IsImage schema kept.dir kept.number kept.doubt files.root files.log None x → Gives schema base steps x
  gives x image = ⊎_elim (λ a. a) (λ b. b) (image_gives schema base kept.start steps None files.next_file kept.dir kept.number kept.doubt files.root files.log None x kept.state.newer.no_slot kept.in_order kept.reaches kept.may (λ (_ : _). is_quiet) files.log has_all image)

  -- what is left now
  pub gives_at_rest : (x : Image) → words.may_leave disk x → Gives schema base steps x
  gives_at_rest x may = gives x (at_rest x (kept.left x may))

  pub staging_leaves : (new : D) → ((x : Image) → words.may_have_left disk (words.clock disk) x → words.may_leave disk x) → Crashes words disk new (Changes files.log.file Stays) → LeavesOnly words disk new (Gives schema base steps)
  staging_leaves new only crashes = leaves_by words disk new {I = IsImage schema kept.dir kept.number kept.doubt files.root files.log kept.next} only kept.left (λ x image. gives x (at_rest x image)) (λ d x image changes. gives x (stays d x changes image)) crashes

  -- nothing was staged
  pub not_staged : (new : D) (after : GateLog) → after ≡ files.log → Both (Changes files.log.file Stays) (words.told disk) (words.told new) → Crashes words disk new (Changes files.log.file Stays)
      → IsKept words schema base steps None new (record files { log = after })
  not_staged new after is told crashes =
      subst (λ (l : GateLog). IsKept words schema base steps None new (record files { log = l })) (sym is)
      (record {
        dir = kept.dir;
        number = kept.number;
        doubt = kept.doubt;
        next = None;
        start = kept.start;
        start_low = kept.start_low;
        born = kept.born;
        state_is = kept.state_is;
        state = kept.state;
        made = kept.made;
        in_order = kept.in_order;
        reaches = kept.reaches;
        file = kept.file;
        staged = none;
        quiet = λ (_ : _). is_quiet;
        last = kept.last;
        has = has_all;
        may = kept.may;
        sure = kept.sure;
        told = told_by _ _ told kept.told (λ d x image changes. stays d x changes image);
        left = λ x may. let from = crashes.now x may in stays from.0 x from.2 (kept.left from.0 from.1);
      })

  -- a commit waits
  pub was_staged : (new : D) (after : GateLog) (entry : Entry) (snapshot : SnapshotValue) (r : LogRecord) → r ≡ record_of (batch_of entry) → after ≡ staging files.log r → CommitFollows base steps entry snapshot → IsBatchOf schema (batch_of entry)
      → log_at base steps + (13 + length r.payload) < 2 ^ 64
      → Both (Changes files.log.file (λ old new. (records : List LogRecord) → LogStands files.log records None old → LogStands (staging files.log r) records (Some r) new)) (words.told disk) (words.told new)
      → IsSynced files.log.file (words.told new) (words.may_leave new) → ((x : Image) → words.may_leave new x → (image : Image) × (words.told new ≡ Some image)) → Crashes words disk new (Changes files.log.file Stays)
      → IsKept words schema base steps (Some (Commit entry snapshot)) new (record files { log = after })
  was_staged new after entry snapshot r is log_is follows of room told synced tells crashes =
      let b = batch_of entry in
      let told_now : Told (IsImage schema kept.dir kept.number kept.doubt files.root (staging files.log r) (Some b)) (words.told new) = told_by _ _ told kept.told
      (λ d x old changes.
      let image = at_rest d old in
      with_newer schema kept.dir kept.dir.newer kept.number kept.doubt files.next_file files.root files.log (staging files.log r) None (Some b) d x kept.state kept.may (others_are files.log.file kept.dir.state.newer d x kept.file changes) image
      (subst (λ (q : LogRecord). LogStands (staging files.log r) (map record_of kept.dir.newer) (Some q) (x kept.dir.state.newer)) is (here_is files.log.file kept.dir.state.newer d x kept.file changes (map record_of kept.dir.newer) image.newer))) in
      subst (λ (l : GateLog). IsKept words schema base steps (Some (Commit entry snapshot)) new (record files { log = l })) (sym log_is)
      (record {
        dir = kept.dir;
        number = kept.number;
        doubt = kept.doubt;
        next = Some b;
        start = kept.start;
        start_low = kept.start_low;
        born = kept.born;
        state_is = kept.state_is;
        state = kept.state;
        made = kept.made;
        in_order = kept.in_order;
        reaches = kept.reaches;
        file = kept.file;
        staged = ap (λ (q : LogRecord). Some (q.number, 13 + length q.payload)) is;
        quiet = λ no. absurd (cc (no));
        last = kept.last;
        has = record { says = has_all.says; end = has_all.end; grown_is = has_all.grown_is; through_is = has_all.through_is; entry = entry; snapshot = snapshot; waits = refl; is = refl; follows = follows; of = of; room = omega (arith, room, has_all.end, ap (λ (q : LogRecord). length q.payload) is) };
        may = kept.may;
        sure = kept.sure;
        told = told_now;
        left = λ x may.
            let from = crashes.now x may in
            with_newer schema kept.dir kept.dir.newer kept.number kept.doubt files.next_file files.root files.log (staging files.log r) None (Some b) from.0 x kept.state kept.may (others_are files.log.file kept.dir.state.newer from.0 x kept.file from.2) (at_rest from.0 (kept.left from.0 from.1))
            (synced_newer files.log.file kept.dir (words.told new) (words.may_leave new) (staging files.log r) (map record_of kept.dir.newer) (Some (record_of b)) kept.file (λ i is. (told_now i is).newer) synced tells x may);
      })
