-- Jobs: what the end of a job writes.
use Rattle.std.specs.Prelude.{◌≡◌, ◌≢◌, ℕ, ◌+◌, ◌≤◌, List, [], ◌∷◌, ◌++◌, Bool, ◌==◌, Option, Some, None, IfSome, length, map, AllPairs}
use Rattle.std.specs.List.{AllZip, list_any}
use Rattle.doc_types.specs.declared.documents.DocRow.{DocRow}
use Rattle.doc_types.specs.declared.schema.Schema.{Schema}
use Rattle.doc_types.specs.Rows.{rows_of}
use Rattle.doc_types.specs.Snapshots.{SnapshotValue, all_living, live}
use Rattle.doc_bytes.specs.SchemaText.{schema_text}
use Rattle.chunk_store.specs.Images.{Image, Told}
use Rattle.chunk_store.specs.declared.disk.Disk.{Ghosts as DiskWords}
use Rattle.gate_log.specs.Logs.{Stands as LogStands, quiet_log}
use Rattle.root_slots.specs.States.{IsState}
use Rattle.root_slots.specs.declared.state.ChunkEntry.{ChunkEntry}
use Rattle.root_slots.specs.declared.state.RootState.{RootState}
use Rattle.step_history.specs.declared.job.Job.{Job}
use Rattle.step_history.specs.declared.job.Job.TheVariants.{Flush, Optimize}
use Rattle.step_history.specs.History.{Base, Step, Reshape, ReshapeFollows, last_snapshot}
use Rattle.step_history.specs.Places.{disk_chunks}
use Rattle.chunk_image.specs.ChunkImage.{IsImageOf}
use Rattle.store_steps.specs.Directory.{IsChunkOf, layers_from}
use Rattle.store_steps.specs.declared.files.Files.{Files}

-- the file of the new log: the next one, or the one behind that of the chunk, where there is one
abbrev pub log_file : ℕ → Option (List ℕ) → ℕ
log_file file None = file
log_file file (Some bytes) = file + 1

-- The entries are of one file.
pub record IsSameFile (old new : ChunkEntry) : Type 0 where
  pub file : new.file ≡ old.file
  pub size : new.length ≡ old.length

-- Of these chunks those stay, with dead rows of their own: all after FLUSH, none after OPTIMIZE.
abbrev pub Stay : Job → List ChunkEntry → List (List DocRow) → List ChunkEntry → List (List DocRow) → Type 0
Stay Flush old chunks entries rows = AllZip IsSameFile old entries × (rows ≡ chunks)
Stay Optimize old chunks entries rows = (entries ≡ []) × (rows ≡ [])

-- The chunk that is made, if one is.
abbrev pub Adds : Schema → ℕ → Option (List ℕ) → List ChunkEntry → List (List DocRow) → Type 0
Adds schema file None entries rows = (entries ≡ []) × (rows ≡ [])
Adds schema file (Some bytes) entries rows = (one : List DocRow) × (entries ≡ record { file = file; length = length bytes; dead = [] } ∷ []) × (rows ≡ one ∷ []) × IsImageOf schema one bytes

-- The end of a job behind these steps, where this is the own state, and the files from this number on are made for it: the chunk, if
-- there is one, and the log. The new state is as at the snapshot over which the job began; what came since stands in the log that
-- grew.
pub record IsJob (schema : Schema) (base : Base) (steps : List Step) (own : RootState) (file : ℕ) (chunk : Option (List ℕ)) (new : RootState) (step : Step) : Type 0 where
  pub job : Job
  pub next : SnapshotValue
  pub is : step ≡ Reshape job new.through next
  pub follows : ReshapeFollows base steps job new.through next
  pub state : IsState new
  pub text : new.schema_text ≡ schema_text schema
  pub older : new.older ≡ own.newer
  pub newer : new.newer ≡ log_file file chunk
  pub next_file : new.next_file ≡ log_file file chunk + 1
  pub chunks : List (List DocRow)
  pub kept : List ChunkEntry
  pub kept_rows : List (List DocRow)
  pub added : List ChunkEntry
  pub added_rows : List (List DocRow)
  pub entries : new.chunks ≡ kept ++ added
  pub chunks_are : chunks ≡ kept_rows ++ added_rows
  pub stay : Stay job own.chunks (disk_chunks (last_snapshot base steps)) kept kept_rows
  pub add : Adds schema file chunk added added_rows
  pub of : AllZip (IsChunkOf schema new.through) new.chunks chunks
  pub once : AllPairs (λ row other. row.doc.id ≢ other.doc.id) (all_living (layers_from new.chunks chunks))
  pub rows : rows_of (all_living (layers_from new.chunks chunks)) ≡ live (last_snapshot base follows.earlier)
  pub disk : chunks ≡ disk_chunks next

-- The new files are there.
pub record HasNewFiles (chunk : Option (List ℕ)) (file : ℕ) (x : Image) : Type 0 where
  pub chunk_is : IfSome chunk (λ bytes. x file ≡ Some bytes)
  pub log : LogStands (quiet_log (log_file file chunk) 0 None) [] None (x (log_file file chunk))

-- They are there for good.
pub record AreWritten {D : Type 0} (words : DiskWords D) (chunk : Option (List ℕ)) (file : ℕ) (disk : D) : Type 0 where
  pub told : Told (HasNewFiles chunk file) (words.told disk)
  pub left : (x : Image) → words.may_leave disk x → HasNewFiles chunk file x

-- anything may have become of a file
abbrev pub Anything : Option (List ℕ) → Option (List ℕ) → Type 0
Anything old new = Unit {0}

-- the file has these bytes, where there are some
abbrev pub Becomes : Option (List ℕ) → Option (List ℕ) → Option (List ℕ) → Type 0
Becomes None old new = new ≡ old
Becomes (Some bytes) old new = new ≡ Some bytes

-- the file is a log without a record
abbrev pub IsBegun : ℕ → Option (List ℕ) → Option (List ℕ) → Type 0
IsBegun file old new = LogStands (quiet_log file 0 None) [] None new

-- No more numbers were taken than the end of a job needs: two of files, and one of roots.
pub record TakesNumbers (old new : Files) : Type 0 where
  pub file : new.next_file ≤ old.next_file + 2
  pub root : new.root.number ≤ old.root.number + 1

-- the state names the file
abbrev pub names : RootState → ℕ → Bool
names state file = list_any (λ named. named == file) (state.older ∷ state.newer ∷ map (λ c. c.file) state.chunks)
