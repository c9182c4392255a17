-- Reshapes: what the end of a job through an engine says, by what its token has seen then.
use Rattle.std.specs.Prelude.{◌≡◌, ◌<◌, List, [], ◌∷◌, ◌++◌, Some, Result, Ok, Err}
use mathlib.Core.List.{IsPrefix}
use Rattle.commit_outcomes.specs.declared.outcome.FullKind.TheVariants as limits
use Rattle.doc_types.specs.Snapshots.{SnapshotValue}
use Rattle.doc_types.specs.declared.schema.Schema.{Schema}
use Rattle.job_chunks.specs.Chunks.{NewChunkValue}
use Rattle.step_book.specs.Fronts.{FrontValue}
use Rattle.step_history.specs.History.{Base, Step, Reshape, last_snapshot}
use Rattle.step_tokens.specs.Tokens.{LeavesInDoubt, TokenValue}
use Rattle.store_keep.specs.declared.install_fault.InstallFault.{InstallFault}
use Rattle.store_keep.specs.declared.install_fault.InstallFault.TheVariants as faults
use Rattle.snap_share.specs.Answers.{Advances, Contradicts, IsNoteOf, Stays}

-- The end of the job is the last step of what the token has seen, whatever commits came since the job began; what stands before it
-- begins with all that the token had seen.
pub record IsReshaped (old : TokenValue) (new : NewChunkValue) (after : TokenValue) : Type 0 where
  pub earlier : List Step
  pub snapshot : SnapshotValue
  pub last : after.seen ≡ earlier ++ Reshape new.job new.from.number snapshot ∷ []
  pub before : IsPrefix old.seen earlier

-- The end of the job waits behind what the token has seen, and its step stands in the index's book: the token keeps the steps with it,
-- and what it had left in doubt before is of one line with them.
pub record IsJobInDoubt (old : TokenValue) (new : NewChunkValue) (after : TokenValue) : Type 0 where
  pub snapshot : SnapshotValue
  pub leaves : LeavesInDoubt old after (after.seen ++ Reshape new.job new.from.number snapshot ∷ [])

-- what the end of a job with this chunk says, and what its token is then, but for its shares
abbrev pub ReshapeAnswers : {J : Type 0} → Schema → Base → TokenValue → NewChunkValue → Result FrontValue (InstallFault J) → TokenValue → Type 0
ReshapeAnswers schema base old new (Ok note) after = Advances schema base old after old.made old.entered × IsNoteOf after note × IsReshaped old new after
ReshapeAnswers schema base old new (Err faults.NoMemory) after = Advances schema base old after old.made old.entered
ReshapeAnswers schema base old new (Err (faults.Strayed numbers note)) after = Stays old after × Contradicts base old numbers note
ReshapeAnswers schema base old new (Err (faults.Overtaken shape note)) after =
    Advances schema base old after old.made old.entered × IsNoteOf after note × ((last_snapshot base after.seen).shape ≡ shape) × (new.from.shape < shape)
ReshapeAnswers schema base old new (Err (faults.Full full)) after = Advances schema base old after old.made old.entered × (full.what ≡ limits.Root) × (full.need ≡ 1)
ReshapeAnswers schema base old new (Err faults.DiskFault) after = Advances schema base old after old.made old.entered
ReshapeAnswers schema base old new (Err faults.InDoubt) after = Advances schema base old after old.made after.entered × IsJobInDoubt old new after
