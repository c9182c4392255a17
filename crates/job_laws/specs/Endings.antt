-- Endings: what the files of an index have once a job has ended.
use Rattle.std.specs.Prelude.{◌≡◌, ℕ, List, [], ◌∷◌, ◌++◌, Option, Some, None, Ok, length}
use Rattle.std.specs.List.{AllZip}
use Rattle.chunk_store.specs.Images.{Image}
use Rattle.chunk_store.specs.declared.disk.Disk.{Ghosts as DiskWords}
use Rattle.doc_types.specs.declared.documents.DocRow.{DocRow}
use Rattle.doc_types.specs.declared.schema.Schema.{Schema}
use Rattle.doc_types.specs.Snapshots.{SnapshotValue}
use Rattle.job_chunks.specs.Chunks.{NewChunkValue}
use Rattle.reshape_laws.specs.Rebasing.{rebased, some_chunk, taken}
use Rattle.root_slots.specs.Slots.{IsRoot, slots_of}
use Rattle.root_slots.specs.declared.state.ChunkEntry.{ChunkEntry}
use Rattle.root_slots.specs.declared.state.RootState.{RootState}
use Rattle.step_book.specs.Fronts.{FrontValue}
use Rattle.step_history.specs.declared.job.Job.{Job}
use Rattle.step_history.specs.declared.job.Job.TheVariants.{Flush, Optimize}
use Rattle.step_history.specs.History.{Base, Step, Reshape, chunks_for, last_snapshot}
use Rattle.step_history.specs.Places.{disk_chunks}
use Rattle.step_line.specs.Lines.{LineValue, entered}
use Rattle.step_tokens.specs.Tokens.{TokenValue}
use Rattle.store_keep.specs.Answers.{AnswersInstall}
use Rattle.store_steps.specs.Directory.{IsChunkFile}
use Rattle.store_steps.specs.declared.files.Files.{Files}

-- the end of a job with this chunk behind these steps
abbrev pub end_behind : Base → List Step → NewChunkValue → Step
end_behind base before new = Reshape new.job new.from.number (rebased new.job new.from.number new.rows (last_snapshot base before))

-- the chunks of a snapshot that a job leaves: FLUSH all, OPTIMIZE none
abbrev pub left_chunks : Job → SnapshotValue → List (List DocRow)
left_chunks Flush before = disk_chunks before
left_chunks Optimize before = []

-- The last chunk that the state names stands in its file with these bytes.
pub record EndsInFile (state : RootState) (bytes : List ℕ) (x : Image) : Type 0 where
  pub front : List ChunkEntry
  pub entry : ChunkEntry
  pub last : state.chunks ≡ front ++ entry ∷ []
  pub file : x entry.file ≡ Some bytes

-- the same where there are bytes
abbrev pub EndsInChunk : RootState → Option (List ℕ) → Image → Type 0
EndsInChunk state None x = Unit {0}
EndsInChunk state (Some bytes) x = EndsInFile state bytes x

-- The image has a root of this state.
pub record HasRoot (state : RootState) (x : Image) : Type 0 where
  pub number : ℕ
  pub root : IsRoot (Some (record { number = number; state = state })) (slots_of x)

-- By what is known of its files, the disk has what a job with this chunk left, behind this snapshot.
pub record EndsIn {D : Type 0} (words : DiskWords D) (schema : Schema) (before : SnapshotValue) (new : NewChunkValue) (files : Files) (disk : D) : Type 0 where
  pub through : files.state.through ≡ new.from.number
  -- one new chunk where there was a row to take, else none
  pub one : length (some_chunk new.rows) ≡ chunks_for (taken new.job new.from)
  pub chunks : (x : Image) → words.may_leave disk x → AllZip (IsChunkFile schema x) files.state.chunks (left_chunks new.job before ++ some_chunk new.rows)
  pub bytes : (x : Image) → words.may_leave disk x → EndsInChunk files.state new.image x

-- Whatever a crash leaves of the disk has a root of the files' own state.
abbrev pub KeepsRoot : {D : Type 0} → DiskWords D → Files → D → Type 0
KeepsRoot words files disk = (x : Image) → words.may_leave disk x → HasRoot files.state x

-- `install` of this chunk answered a note, and left this line and these files, where these steps were there before: those that were
-- published, and the one that waited.
pub record WasAnswered (J : Type 0) (base : Base) (before : List Step) (new : NewChunkValue) (next : LineValue) (kept : Files) : Type 0 where
  pub line : LineValue
  pub files : Files
  pub token : TokenValue
  pub count : ℕ
  pub note : FrontValue
  pub after : TokenValue
  pub now : ℕ
  pub before_is : before ≡ entered line
  pub answer : AnswersInstall {J = J} base line files token new count (Ok note) next kept after now
