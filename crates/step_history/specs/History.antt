-- History: what happened to an index since it was opened, step by step, and which lists of steps are good histories.
use Rattle.std.specs.Prelude.{◌≡◌, ◌≤◌, ℕ, ◌+◌, List, [], ◌∷◌, ◌++◌, Bool, true, false, ◌==◌, ◌&&◌, not, length, All, Some, Contains}
use Rattle.std.specs.List.{filter, list_any}
use Rattle.std.specs.FinMap as finite
use Rattle.doc_types.specs.declared.documents.DocRow.{DocRow}
use Rattle.doc_types.specs.declared.schema.Schema.{Schema}
use Rattle.doc_types.specs.Documents.{AreRowsOf}
use Rattle.doc_types.specs.Rows.{Docs, docs}
use Rattle.doc_types.specs.Commits.{Change, Put, Kill, Clear, Entry, after_entry}
use Rattle.doc_types.specs.Snapshots.{SnapshotValue, all_living, live}
use Rattle.step_history.specs.declared.job.Job.{Job}
use Rattle.step_history.specs.declared.job.Job.TheVariants.{Flush, Optimize}
use Rattle.step_history.specs.Places.{disk_chunks, on_disk, ram_layers, IsLive, LivesOnDisk}

-- A step: a commit of an entry, or the end of a job that began over the snapshot of this number; with the snapshot after it.
pub data Step : Type 0 where
  Commit : Entry → SnapshotValue → Step
  Reshape : Job → ℕ → SnapshotValue → Step

-- Where a history begins: the snapshot at opening, and the place at which the log ended then.
pub record Base : Type 0 where
  pub opening : SnapshotValue
  pub log : ℕ

-- the snapshot after a step
abbrev pub snapshot_of : Step → SnapshotValue
snapshot_of (Commit entry snapshot) = snapshot
snapshot_of (Reshape job through snapshot) = snapshot

-- the snapshot after these steps
abbrev pub after_steps : SnapshotValue → List Step → SnapshotValue
after_steps snapshot [] = snapshot
after_steps snapshot (step ∷ steps) = after_steps (snapshot_of step) steps

-- the last snapshot of a history
abbrev pub last_snapshot : Base → List Step → SnapshotValue
last_snapshot base steps = after_steps base.opening steps

-- its documents
abbrev pub documents : Base → List Step → Docs
documents base steps = docs (live (last_snapshot base steps))

-- its entries, those of them that are a worker's, and how many these are
abbrev pub commits : List Step → List Entry
commits [] = []
commits (Commit entry snapshot ∷ steps) = entry ∷ commits steps
commits (Reshape job through snapshot ∷ steps) = commits steps

abbrev pub commits_by : ℕ → List Step → List Entry
commits_by worker steps = filter (λ entry. entry.worker == worker) (commits steps)

abbrev pub made_by : ℕ → List Step → ℕ
made_by worker steps = length (commits_by worker steps)

-- the place of a snapshot in its history
abbrev pub place_of : SnapshotValue → ℕ
place_of snapshot = snapshot.number + snapshot.shape

-- the entry has a put of the id
abbrev pub is_put : ℕ → Change → Bool
is_put id (Put doc) = doc.id == id
is_put id (Kill killed) = false
is_put id Clear = false

abbrev pub puts : Entry → ℕ → Bool
puts entry id = list_any (is_put id) entry.changes

-- What a commit makes of the snapshot before it: the next number, the rows after its entry, and the same chunks on the disk, in
-- which an id that is live lives on exactly where it did before and isn't put anew. The entries of a worker are numbered.
pub record CommitFollows (base : Base) (steps : List Step) (entry : Entry) (next : SnapshotValue) : Type 0 where
  pub numbered : entry.number ≡ (last_snapshot base steps).number + 1
  pub number : next.number ≡ (last_snapshot base steps).number + 1
  pub shape : next.shape ≡ (last_snapshot base steps).shape
  pub chunks : disk_chunks next ≡ disk_chunks (last_snapshot base steps)
  pub rows : live next ≡ after_entry (live (last_snapshot base steps)) entry
  pub disk : (id : ℕ) → IsLive next id → on_disk next id ≡ (on_disk (last_snapshot base steps) id && not (puts entry id))
  pub seq : entry.seq ≡ made_by entry.worker steps + 1

-- one chunk for some rows, and none for no row
abbrev pub chunks_for : List DocRow → ℕ
chunks_for [] = 0
chunks_for (row ∷ rows) = 1

-- What FLUSH leaves, begun over a snapshot: the same chunks on the disk, and one more where a row lived in memory; each row that
-- lives and isn't newer than that snapshot lives on the disk.
pub record Flushes (from before next : SnapshotValue) : Type 0 where
  pub more : List (List DocRow)
  pub chunks : disk_chunks next ≡ disk_chunks before ++ more
  pub one : length more ≡ chunks_for (all_living (ram_layers from))
  pub rows : (id : ℕ) (row : DocRow) → finite.get (live next) id ≡ Some row → row.born ≤ from.number → LivesOnDisk next row

-- What OPTIMIZE leaves, begun over a snapshot: one chunk on the disk, which has each row that lived then, or none where none did.
pub record Optimizes (from next : SnapshotValue) : Type 0 where
  pub one : length (disk_chunks next) ≡ chunks_for (all_living from.layers)
  pub rows : (id : ℕ) (row : DocRow) → finite.get (live from) id ≡ Some row → All (λ chunk. Contains chunk row) (disk_chunks next)

-- what a job leaves on the disk
abbrev pub Reshapes : Job → SnapshotValue → SnapshotValue → SnapshotValue → Type 0
Reshapes Flush from before next = Flushes from before next
Reshapes Optimize from before next = Optimizes from next

-- What the end of a job makes of the snapshot before it: the same number and rows, and the next shape. The job began over the
-- snapshot of this number at some earlier place of the history, at which the shape was still that of the snapshot before.
pub record ReshapeFollows (base : Base) (steps : List Step) (job : Job) (through : ℕ) (next : SnapshotValue) : Type 0 where
  pub number : next.number ≡ (last_snapshot base steps).number
  pub rows : live next ≡ live (last_snapshot base steps)
  pub shape : next.shape ≡ (last_snapshot base steps).shape + 1
  pub earlier : List Step
  pub since : List Step
  pub both : steps ≡ earlier ++ since
  pub from_number : (last_snapshot base earlier).number ≡ through
  pub from_shape : (last_snapshot base earlier).shape ≡ (last_snapshot base steps).shape
  pub reshapes : Reshapes job (last_snapshot base earlier) (last_snapshot base steps) next

-- the step may follow these steps
abbrev pub Follows : Base → List Step → Step → Type 0
Follows base steps (Commit entry next) = CommitFollows base steps entry next
Follows base steps (Reshape job through next) = ReshapeFollows base steps job through next

-- the rows of all layers are of the schema
abbrev pub AreOf : Schema → SnapshotValue → Type 0
AreOf schema snapshot = All (λ layer. AreRowsOf schema layer.rows) snapshot.layers

-- A good history of an index: each step follows those before it, and all rows are of the schema.
pub record IsGood (schema : Schema) (base : Base) (steps : List Step) : Type 0 where
  pub base_of : AreOf schema base.opening
  pub each : (before : List Step) (step : Step) (rest : List Step) → steps ≡ before ++ step ∷ rest → Follows base before step × AreOf schema (snapshot_of step)
