-- Kept: what a disk keeps of the history of an index. Whatever a crash leaves gives the documents after all published steps, or
-- after these and the one step that waits.
--
-- The files hold one directory, by the own state of their root, or by one in doubt that stands for the same documents (Doubts). It
-- has the chunks of the last snapshot, and in the log that grows the commits since the last job.
use Rattle.std.specs.Prelude.{◌≡◌, ◌⊎◌, ℕ, ◌+◌, ◌≤◌, ◌<◌, ◌^◌, List, true, false, Option, Some, None, IfSome, length, map}
use Rattle.std.specs.List.{AllZip}
use Rattle.std.specs.Option.{option_map}
use Rattle.doc_types.specs.declared.schema.Schema.{Schema}
use Rattle.doc_types.specs.Commits.{Entry}
use Rattle.doc_types.specs.Snapshots.{SnapshotValue, live}
use Rattle.chunk_store.specs.Images.{Image, Told}
use Rattle.chunk_store.specs.declared.disk.Disk.{Ghosts as DiskWords}
use Rattle.gate_log.specs.Logs.{Stands as LogStands, last_number}
use Rattle.gate_log.specs.declared.log.GateLog.{GateLog}
use Rattle.root_slots.specs.Slots.{slots_of}
use Rattle.root_slots.specs.States.{IsState}
use Rattle.root_slots.specs.Roots.{Stands as RootStands}
use Rattle.root_slots.specs.declared.root.Root.{Root}
use Rattle.step_history.specs.History.{Base, Step, Commit, CommitFollows, last_snapshot}
use Rattle.step_history.specs.Logs.{log_at}
use Rattle.step_history.specs.Places.{disk_chunks}
use Rattle.step_line.specs.Lines.{with_waiting}
use Rattle.store_steps.specs.Batches.{Batch, IsBatchOf, batch_of, record_of}
use Rattle.store_steps.specs.Directory.{Directory, IsChunkFile, IsInOrder, IsOlderLog, Reaches, StandsFor, directory_number, directory_rows}
use Rattle.store_steps.specs.Doubts.{AreOther, Doubted, MayStand, slot_in}
use Rattle.store_steps.specs.Grown.{AreBorn, Start, grown, through_at}
use Rattle.store_steps.specs.declared.files.Files.{Files}

-- The image stands for the documents after these steps.
abbrev pub Gives : Schema → Base → List Step → Image → Type 0
Gives schema base steps x = StandsFor schema x (live (last_snapshot base steps)) (last_snapshot base steps).number

-- The image stands for the documents after these steps, or after these and the one that waits.
abbrev pub GivesEither : Schema → Base → List Step → Option Step → Image → Type 0
GivesEither schema base steps waiting x = Gives schema base steps x ⊎ Gives schema base (with_waiting steps waiting) x

-- Calls went by, at each moment of which a crash leaves only such images.
pub record LeavesOnly {D : Type 0} (words : DiskWords D) (old new : D) (P : Image → Type 0) : Type 0 where
  pub later : words.clock old ≤ words.clock new
  pub each : (x : Image) → words.may_have_left new (words.clock old) x → P x
  pub since : (t : ℕ) (x : Image) → t ≤ words.clock old → words.may_have_left new t x → words.may_have_left old t x ⊎ P x

-- The directory says what the snapshot does: the same documents, by the same number, and the chunks that are on the disk.
pub record Says (dir : Directory) (snapshot : SnapshotValue) : Type 0 where
  pub rows : directory_rows dir ≡ live snapshot
  pub number : directory_number dir ≡ snapshot.number
  pub chunks : dir.chunks ≡ disk_chunks snapshot

-- the number of a batch, and how many bytes its record takes
abbrev pub mark : Batch → ℕ × ℕ
mark b = (b.number, 13 + length (record_of b).payload)

-- A commit waits, and its record is staged behind the log's closed gate.
pub record IsStaged (schema : Schema) (base : Base) (start : Start) (steps : List Step) (waiting : Option Step) (log : GateLog) (dir : Directory) (b : Batch) : Type 0 where
  pub says : Says dir (last_snapshot base steps)
  pub end : log.end ≡ log_at base steps
  pub grown_is : dir.newer ≡ grown start.batches steps
  pub through_is : dir.state.through ≡ through_at start.through steps
  pub entry : Entry
  pub snapshot : SnapshotValue
  pub waits : waiting ≡ Some (Commit entry snapshot)
  pub is : b ≡ batch_of entry
  pub follows : CommitFollows base steps entry snapshot
  pub of : IsBatchOf schema b
  pub room : log.end + (13 + length (record_of b).payload) < 2 ^ 64

-- The directory has all steps, the one that waits too.
pub record HasAll (base : Base) (start : Start) (steps : List Step) (log : GateLog) (dir : Directory) : Type 0 where
  pub says : Says dir (last_snapshot base steps)
  pub end : log.end ≡ log_at base steps
  pub grown_is : dir.newer ≡ grown start.batches steps
  pub through_is : dir.state.through ≡ through_at start.through steps

-- what the directory has of the steps, by the batch whose record is staged
abbrev pub Has : Schema → Base → Start → List Step → Option Step → GateLog → Directory → Option Batch → Type 0
Has schema base start steps waiting log dir None = HasAll base start (with_waiting steps waiting) log dir
Has schema base start steps waiting log dir (Some b) = IsStaged schema base start steps waiting log dir b

-- The image is one of this directory, whose root has this number, as its root and its newer log left it; this batch is staged, and
-- this state is in doubt.
pub record IsImage (schema : Schema) (dir : Directory) (number : ℕ) (doubt : Option Doubted) (root : Root) (log : GateLog) (next : Option Batch) (x : Image) : Type 0 where
  pub chunks : AllZip (IsChunkFile schema x) dir.state.chunks dir.chunks
  pub older : IsOlderLog x dir.state.older dir.older
  pub slots : RootStands root (Some (record { number = number; state = dir.state })) (slot_in doubt) (slots_of x)
  pub newer : LogStands log (map record_of dir.newer) (option_map record_of next) (x dir.state.newer)
  pub other : IfSome doubt (AreOther schema x)

-- The disk, by what is known of its files, keeps these steps and the one that waits.
pub record IsKept {D : Type 0} (words : DiskWords D) (schema : Schema) (base : Base) (steps : List Step) (waiting : Option Step) (disk : D) (files : Files) : Type 0 where
  pub dir : Directory
  pub number : ℕ
  pub doubt : Option Doubted
  pub next : Option Batch
  pub start : Start
  pub start_low : start.through ≤ base.opening.number
  pub born : AreBorn (live base.opening) base.opening.number
  pub state_is : files.state ≡ dir.state
  pub state : IsState dir.state
  -- no state names a file from this number on
  pub made : dir.state.next_file ≤ files.next_file
  pub in_order : IsInOrder schema dir
  pub reaches : Reaches dir
  pub file : files.log.file ≡ dir.state.newer
  pub staged : files.log.staged ≡ option_map mark next
  pub quiet : next ≡ None → files.log.pending ≡ false
  pub last : files.log.last ≡ last_number (map record_of dir.newer)
  pub has : Has schema base start steps waiting files.log dir next
  pub may : IfSome doubt (MayStand schema files.next_file dir)
  pub sure : files.sure ≡ true → doubt ≡ None
  pub told : Told (IsImage schema dir number doubt files.root files.log next) (words.told disk)
  pub left : (x : Image) → words.may_leave disk x → IsImage schema dir number doubt files.root files.log next x
