-- The end of a job behind a line.
use Rattle.std.proofs.Common.{◌≡◌, ◌≢◌, ⊎_elim, inl, inr, ℕ, ◌+◌, ◌≤◌, ◌<◌, ◌^◌, List, [], ◌∷◌, ◌++◌, Bool, true, false, cond, ◌||◌, ◌==◌, map, nat_lt, nat_le, Option, Some, None, Result, Ok, Err, refl, sym, ap, subst, ◌∙◌, arith, length, length-append, append_assoc}
use Rattle.std.proofs.lemmas.Bool.Decides.{nat_tests}
use Rattle.std.specs.Prelude.{IfSome}
use Rattle.std.specs.Option.{option_map}
use mathlib.Core.List.{IsPrefix}
use Rattle.doc_types.specs.declared.documents.DocRow.{DocRow}
use Rattle.doc_types.specs.declared.schema.Schema.{Schema}
use Rattle.doc_types.specs.Chunks.{IsContent}
use Rattle.doc_types.specs.Snapshots.{AreLayers, SnapshotValue}
use Rattle.chunk_store.specs.declared.disk.Disk.{Ghosts as DiskWords}
use Rattle.job_chunks.specs.Chunks.{IsImaged, IsNewChunk, NewChunkValue, layer_in}
use Rattle.job_states.specs.States.{HasSeen, IsRebased, new_entries}
use Rattle.job_states.proofs.Ends.{goes, moves}
use Rattle.reshape.specs.Builds.{IsNew, new_rows}
use Rattle.reshape_laws.specs.Rebasing.{HasMoved, rebased, some_chunk, staying}
use Rattle.root_slots.specs.States.{most_chunks}
use Rattle.root_slots.specs.declared.state.ChunkEntry.{ChunkEntry}
use Rattle.root_slots.specs.declared.state.RootState.{RootState}
use Rattle.job_files.specs.Jobs.{names}
use Rattle.std.specs.List.{list_any}
use Rattle.step_book.proofs.Prefixes.{prefix_whole}
use Rattle.step_history.proofs.Steps.{shape_up}
use Rattle.step_history.specs.History.{Base, IsGood, Reshape, Step, last_snapshot}
use Rattle.step_line.specs.Lines.{LineValue, MayFollow, entered, settled, with_waiting}
use Rattle.step_tokens.specs.Tokens.{Agrees, TokenValue}
use Rattle.store_steps.specs.Kept.{GivesEither, IsKept, LeavesOnly}
use Rattle.store_steps.proofs.Leaving.{leaves_weaker}
use Rattle.store_steps.specs.declared.files.Files.{Files}
use Rattle.gate_log.specs.declared.log.GateLog.{GateLog}
use Rattle.srch_base.specs.Counts.{Rose}
use Rattle.store_steps.specs.Refusals.{stray_of}
use Rattle.store_keep.specs.Commits.{Learns}
use Rattle.store_keep.specs.Installs.{EndsJob, HasRoom, Installs, end_of, full_root, full_roots}
use Rattle.store_keep.specs.declared.job_ends.TheConstants.{LAST_FILE, LAST_ROOT}
use Rattle.store_keep.specs.declared.install_fault.InstallFault.{InstallFault}
use Rattle.store_keep.specs.declared.install_fault.InstallFault.TheVariants as faults
use Rattle.store_keep.specs.steps.Endings.{FinishesJob, JobRefused}
use Rattle.step_book.specs.Fronts.{FrontValue}

-- ---- the chunk as a layer

rows_from : (schema : Schema) (rows : List DocRow) (image : Option (List ℕ)) → IsImaged schema rows image → new_rows (option_map (λ (bytes : List ℕ). record { rows = rows; disk = true; dead = [] }) image) ≡ rows
rows_from schema rows None imaged = sym imaged
rows_from schema rows (Some bytes) imaged = refl

pub layer_rows : (schema : Schema) (new : NewChunkValue) → IsNewChunk schema new → new_rows (layer_in new) ≡ new.rows
layer_rows schema new is = rows_from schema new.rows new.image is.imaged

new_from : (schema : Schema) (rows : List DocRow) (image : Option (List ℕ)) → IsContent rows → IsImaged schema rows image → IsNew (option_map (λ (bytes : List ℕ). record { rows = rows; disk = true; dead = [] }) image)
new_from schema rows None content imaged = tt
new_from schema rows (Some bytes) content imaged = (refl, refl, imaged.0, record { content = content; ascend = λ i j d l h. absurd (omega (arith, h)); rows = λ k d h. absurd (omega (arith, h)) })

pub layer_new : (schema : Schema) (new : NewChunkValue) → IsNewChunk schema new → IsNew (layer_in new)
layer_new schema new is = new_from schema new.rows new.image is.content is.imaged

one_entry : (schema : Schema) (file : ℕ) (rows : List DocRow) (image : Option (List ℕ)) → IsImaged schema rows image → length (new_entries file image) ≤ length (some_chunk rows)
one_entry schema file rows None imaged = omega arith
one_entry schema file [] (Some bytes) imaged = absurd (omega (arith, imaged.0))
one_entry schema file (row ∷ rows) (Some bytes) imaged = omega arith

pub few_chunks : (schema : Schema) (file : ℕ) (new : NewChunkValue) → IsNewChunk schema new → length (staying new.job new.from) + length (new_entries file new.image) ≤ most_chunks
few_chunks schema file new is = omega (arith, is.few, one_entry schema file new.rows new.image is.imaged)

small_from : (image : Option (List ℕ)) → IfSome image (λ bytes. length bytes ≤ 536870912) → IfSome image (λ bytes. length bytes < 2 ^ 32)
small_from None is = tt
small_from (Some bytes) is = omega (arith, is)

pub small_image : (schema : Schema) (new : NewChunkValue) → IsNewChunk schema new → IfSome new.image (λ bytes. length bytes < 2 ^ 32)
small_image schema new is = small_from new.image is.small

-- ---- numbers of files and roots

not_some : {X : Type 0} (b : Bool) (x : X) (o : Option X) → cond b (Some x) o ≡ None → (b ≡ false) × (o ≡ None)
not_some true x o is = absurd (cc (is))
not_some false x o is = (refl, is)

pub room_of : (files : Files) → full_root files ≡ None → (files.next_file + 2 < 2 ^ 32) × (files.root.number < 2 ^ 63)
room_of files none =
    let one = not_some (nat_lt LAST_FILE (files.next_file + 2)) _ (full_roots files) none in
    let two = not_some (nat_le LAST_ROOT files.root.number) _ None one.1 in
    (grind (arith, nat_tests, one.0), grind (arith, nat_tests, two.0))

-- ---- files that a state names

pub any_named : (file : ℕ) (chunks : List ChunkEntry) → list_any (λ (named : ℕ). named == file) (map (λ (c : ChunkEntry). c.file) chunks) ≡ list_any (λ (c : ChunkEntry). c.file == file) chunks
any_named file [] = refl
any_named file (c ∷ chunks) = ap (λ (b : Bool). (c.file == file) || b) (any_named file chunks)

pub named_so : (state : RootState) (file : ℕ) → ((state.older == file) || (state.newer == file)) || list_any (λ (c : ChunkEntry). c.file == file) state.chunks ≡ names state file
named_so state file =
    or_assoc (state.older == file) (state.newer == file) (list_any (λ (c : ChunkEntry). c.file == file) state.chunks)
    ∙ ap (λ (b : Bool). (state.older == file) || ((state.newer == file) || b)) (sym (any_named file state.chunks))
  where
    or_assoc : (a b c : Bool) → (a || b) || c ≡ a || (b || c)
    or_assoc true b c = refl
    or_assoc false b c = refl

-- ---- what a job may rest on

module _ {D : Type 0} (words : DiskWords D) (schema : Schema) (base : Base) (steps : List Step) (disk : D) (files : Files) (kept : IsKept words schema base steps None disk files) (none : files.log.staged ≡ None) (good : IsGood schema base steps)
    (new : NewChunkValue) (seen : HasSeen base steps new.from) (chunk : IsNewChunk schema new) (now : SnapshotValue) (is : now ≡ last_snapshot base steps) (same : now.shape ≡ new.from.shape) (from_is : AreLayers new.from.layers) (now_is : AreLayers now.layers) where
  pub has_moved : HasMoved new.job new.from.number (new_rows (layer_in new)) now
  has_moved =
      subst (λ (rows : List DocRow). HasMoved new.job new.from.number rows now) (sym (layer_rows schema new chunk))
      (moves words schema base steps disk files kept none good new.job 0 None seen.earlier seen.since seen.both new.from now seen.last_one is same from_is now_is new.rows chunk.moved)

  pub is_rebased : (next : SnapshotValue) → next ≡ rebased new.job new.from.number new.rows now → IsRebased schema new.job new.from now new.image next
  is_rebased next next_is = record { rows = new.rows; moved = chunk.moved; content = chunk.content; zones = chunk.zones; imaged = chunk.imaged; is = next_is }

  pub may_follow : (next : SnapshotValue) → next ≡ rebased new.job new.from.number new.rows now → length steps + 1 < 2 ^ 63 → MayFollow schema base steps (Reshape new.job new.from.number next)
  may_follow next next_is room =
      let both = goes words schema base steps disk files kept none good new.job 0 new.image seen.earlier seen.since seen.both new.from now next seen.last_one is same from_is now_is (is_rebased next next_is) in
      record { room = room; follows = both.0; of = both.1 }

-- the shape has risen where it is another one
pub shape_risen : (schema : Schema) (base : Base) (steps : List Step) (from now : SnapshotValue) → IsGood schema base steps → HasSeen base steps from → now ≡ last_snapshot base steps → now.shape ≢ from.shape → from.shape < now.shape
shape_risen schema base steps from now good seen is other =
    let up = shape_up schema base seen.earlier seen.since (subst (IsGood schema base) seen.both good) in
    let from_is : (last_snapshot base seen.earlier).shape ≡ from.shape = ap (λ (s : SnapshotValue). s.shape) seen.last_one in
    let now_is : now.shape ≡ (last_snapshot base (seen.earlier ++ seen.since)).shape = ap (λ (s : SnapshotValue). s.shape) is ∙ ap (λ (xs : List Step). (last_snapshot base xs).shape) seen.both in
    grind (arith, up, from_is, now_is, other)

-- ---- what the token has seen, the keeper has

prefix_of : (old new : TokenValue) (made : ℕ) (steps : List Step) → Learns old new made steps → length old.seen ≤ length steps → IsPrefix old.seen steps
prefix_of old new made steps learns within =
    ⊎_elim
    (λ (same : new.seen ≡ old.seen). let whole : steps ≡ old.seen = prefix_whole steps old.seen (subst (λ (s : List Step). IsPrefix steps s) same learns.told) within in subst (λ (s : List Step). IsPrefix old.seen s) (same ∙ sym whole) learns.seen)
    (λ (is : new.seen ≡ steps). subst (λ (s : List Step). IsPrefix old.seen s) is learns.seen) learns.one

pub seen_behind : (base : Base) (from : SnapshotValue) (old new : TokenValue) (made : ℕ) (steps : List Step) → Learns old new made steps → length old.seen ≤ length steps → HasSeen base old.seen from → HasSeen base steps from
seen_behind base from old new made steps learns within seen =
    let p = prefix_of old new made steps learns within in
    record {
      earlier = seen.earlier;
      since = seen.since ++ p.0;
      both = sym p.1 ∙ ap (λ (xs : List Step). xs ++ p.0) seen.both ∙ append_assoc seen.earlier seen.since p.0;
      last_one = seen.last_one;
    }

with_more : (steps : List Step) (waiting : Option Step) → length steps ≤ length (with_waiting steps waiting)
with_more steps None = omega arith
with_more steps (Some step) = omega (arith, length-append steps (step ∷ []))

pub within_entered : (line : LineValue) → length line.history ≤ length (entered line)
within_entered line = with_more line.history line.waiting

-- ---- published or not, the line has the same steps with the one that waits

pub same_entered_job : {J : Type 0} (line next : LineValue) (token after : TokenValue) (before now : ℕ) (r : Result FrontValue (InstallFault J)) → FinishesJob {J = J} line token before r next after now → entered next ≡ entered line
same_entered_job line next token after before now (Ok note) ends = ap entered ends.0
same_entered_job line next token after before now (Err faults.InDoubt) ends = ap entered ends.0
same_entered_job line next token after before now (Err faults.NoMemory) ends = absurd ends
same_entered_job line next token after before now (Err (faults.Strayed strayed note)) ends = absurd ends
same_entered_job line next token after before now (Err (faults.Overtaken shape note)) ends = absurd ends
same_entered_job line next token after before now (Err (faults.Full full)) ends = absurd ends
same_entered_job line next token after before now (Err faults.DiskFault) ends = absurd ends

-- ---- the end of a job, from its parts

pub job_ended : {J : Type 0} (base : Base) (line mid : LineValue) (files : Files) (token : TokenValue) (new : NewChunkValue) (before between now : ℕ) (r : Result FrontValue (InstallFault J)) (next : LineValue) (kept : Files) (after : TokenValue)
    → mid ≡ record line { waiting = Some (end_of base line new) } → HasRoom base line files new → before ≤ between → kept.sure ≡ true → FinishesJob {J = J} mid token between r next after now → EndsJob {J = J} base line files token new before r next kept after now
job_ended base line mid files token new before between now (Ok note) next kept after is room le sure ends = (room, ends.0 ∙ ap settled is, ends.1, ends.2, omega (arith, le, ends.3), sure)
job_ended base line mid files token new before between now (Err faults.InDoubt) next kept after is room le sure ends =
    (room, ends.0 ∙ is, ends.1 ∙ ap (λ (l : LineValue). record token { entered = Some (entered l) }) is, subst (λ (l : LineValue). Agrees token.entered (entered l)) is ends.2, omega (arith, le, ends.3), sure)
job_ended base line mid files token new before between now (Err faults.NoMemory) next kept after is room le sure ends = absurd ends
job_ended base line mid files token new before between now (Err (faults.Strayed strayed note)) next kept after is room le sure ends = absurd ends
job_ended base line mid files token new before between now (Err (faults.Overtaken shape note)) next kept after is room le sure ends = absurd ends
job_ended base line mid files token new before between now (Err (faults.Full full)) next kept after is room le sure ends = absurd ends
job_ended base line mid files token new before between now (Err faults.DiskFault) next kept after is room le sure ends = absurd ends

pub job_refused : {J : Type 0} (base : Base) (line : LineValue) (files : Files) (token : TokenValue) (new : NewChunkValue) (before : ℕ) (fault : InstallFault J) → JobRefused {J = J} base line files new (Some fault) → EndsJob {J = J} base line files token new before (Err fault) line files token before
job_refused base line files token new before (faults.Overtaken shape note) is = (record { line_is = refl; token_is = refl; later = omega arith }, is.0, is.1, is.2)
job_refused base line files token new before (faults.Full full) is = (record { line_is = refl; token_is = refl; later = omega arith }, is.0, is.1)
job_refused base line files token new before faults.NoMemory is = absurd is
job_refused base line files token new before (faults.Strayed strayed note) is = absurd is
job_refused base line files token new before faults.DiskFault is = absurd is
job_refused base line files token new before faults.InDoubt is = absurd is

-- what a crash leaves once the step was published, it leaves while it waits
pub settled_leaves : {D : Type 0} (words : DiskWords D) (schema : ℕ → Schema) (base : ℕ → Base) (old now : D) (line next : LineValue) → next ≡ settled line → LeavesOnly words old now (GivesEither (schema next.index) (base next.index) next.history next.waiting)
    → LeavesOnly words old now (GivesEither (schema line.index) (base line.index) line.history line.waiting)
settled_leaves words schema base old now line next is leaves =
    leaves_weaker words old now {P = GivesEither (schema line.index) (base line.index) (entered line) None} {R = GivesEither (schema line.index) (base line.index) line.history line.waiting} (λ x gives. ⊎_elim (λ a. inr a) (λ b. inr b) gives)
    (subst (λ (l : LineValue). LeavesOnly words old now (GivesEither (schema l.index) (base l.index) l.history l.waiting)) is leaves)

-- ---- with what was settled before

same_room : (base : Base) (line : LineValue) (files : Files) (log : GateLog) (new : NewChunkValue) → HasRoom base line (record files { log = log }) new → HasRoom base line files new
same_room base line files log new room = record { shape = room.shape; numbers = room.numbers }

-- the log has no part in what is said
with_files : {J : Type 0} (base : Base) (line : LineValue) (files : Files) (log : GateLog) (token : TokenValue) (new : NewChunkValue) (before now : ℕ) (r : Result FrontValue (InstallFault J)) (next : LineValue) (kept : Files) (after : TokenValue)
    → EndsJob {J = J} base line (record files { log = log }) token new before r next kept after now → EndsJob {J = J} base line files token new before r next kept after now
with_files base line files log token new before now (Ok note) next kept after ends = (same_room base line files log new ends.0, ends.1, ends.2, ends.3, ends.4, ends.5)
with_files base line files log token new before now (Err faults.NoMemory) next kept after ends = ends
with_files base line files log token new before now (Err (faults.Strayed strayed note)) next kept after ends = ends
with_files base line files log token new before now (Err (faults.Overtaken shape note)) next kept after ends = ends
with_files base line files log token new before now (Err (faults.Full full)) next kept after ends = ends
with_files base line files log token new before now (Err faults.DiskFault) next kept after ends = ends
with_files base line files log token new before now (Err faults.InDoubt) next kept after ends = (same_room base line files log new ends.0, ends.1, ends.2, ends.3, ends.4, ends.5)

pub after_job : {J : Type 0} (base : ℕ → Base) (line mid : LineValue) (files mid_files : Files) (log : GateLog) (token taught : TokenValue) (new : NewChunkValue) (before between now : ℕ) (r : Result FrontValue (InstallFault J)) (next : LineValue) (kept : Files) (after : TokenValue)
    → stray_of (base line.index) line token ≡ None → mid ≡ settled line → mid_files ≡ record files { log = log } → Learns token taught token.made mid.history → before ≤ between → EndsJob {J = J} (base mid.index) mid mid_files taught new between r next kept after now
    → Installs {J = J} (base line.index) line files token new before r next kept after now
after_job {J} base line mid files mid_files log token taught new before between now r next kept after none is files_are learns later ends = inr (inr (record {
  none = none;
  taught = taught;
  between = between;
  later = later;
  learns = subst (λ (l : LineValue). Learns token taught token.made l.history) is learns;
  ends = with_files {J = J} (base line.index) (settled line) files log taught new between now r next kept after
      (subst (λ (f : Files). EndsJob {J = J} (base line.index) (settled line) f taught new between r next kept after now) files_are
      (subst (λ (l : LineValue). EndsJob {J = J} (base l.index) l mid_files taught new between r next kept after now) is ends));
}))

pub unsettled_job : {J : Type 0} (base : Base) (line : LineValue) (files : Files) (token : TokenValue) (new : NewChunkValue) (before now : ℕ) (next : LineValue) (kept : Files) (after : TokenValue) → stray_of base line token ≡ None
    → next ≡ line → Learns token after token.made next.history → before ≤ now → Rose before now → line.waiting ≢ None → Installs {J = J} base line files token new before (Err faults.DiskFault) next kept after now
unsettled_job base line files token new before now next kept after none is learns later rose waits = inr (inl (record {
  none = none;
  answer = inr (refl, rose, waits);
  line_is = is;
  learns = subst (λ (l : LineValue). Learns token after token.made l.history) is learns;
  later = later;
}))
