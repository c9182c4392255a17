-- Limits: how many chunks an index has on the disk, and how many bytes their images have together.
use Rattle.std.specs.Prelude.{◌≡◌, ℕ, ◌+◌, ◌<◌, ◌≤◌, List, [], ◌∷◌, Result, Ok, Err, length}
use Rattle.doc_types.specs.declared.documents.DocRow.{DocRow}
use Rattle.doc_types.specs.declared.schema.Schema.{Schema}
use Rattle.doc_types.specs.Schemas.{IsSchema}
use Rattle.doc_types.specs.Snapshots.{LayerValue, SnapshotValue}
use Rattle.srch_base.specs.declared.faults.Or.{Or}
use Rattle.srch_base.specs.declared.faults.Or.TheVariants as faults
use Rattle.commit_outcomes.specs.declared.outcome.Full.{Full}
use Rattle.commit_outcomes.specs.declared.outcome.FullKind.{FullKind}
use Rattle.commit_outcomes.specs.declared.outcome.FullKind.TheVariants as kinds
use Rattle.image_join.specs.JoinedImages.{HasImageLength, HasJoinedLength}
use Rattle.root_slots.specs.States.{most_chunks}
use Rattle.reshape_laws.specs.Rebasing.{some_chunk, staying, taken}
use Rattle.step_history.specs.declared.job.Job.{Job}
use Rattle.step_history.specs.History.{AreOf}
use Rattle.job_chunks.specs.declared.limits.TheConstants.{MAX_IMAGES}
use Rattle.job_chunks.specs.Chunks.{IsNewChunk, NewChunkValue}

-- how many chunks a job makes of these rows: one, or none where there are none
abbrev pub chunks_of : List DocRow → ℕ
chunks_of rows = length (some_chunk rows)

-- the images of the chunks of these layers have so many bytes together
abbrev pub HaveBytes : List LayerValue → ℕ → Type 0
HaveBytes [] bytes = bytes ≡ 0
HaveBytes (layer ∷ layers) bytes = (own : ℕ) × (others : ℕ) × HasImageLength layer.rows own × HaveBytes layers others × (bytes ≡ own + others)

-- the image of the chunk of these rows has so many bytes, and none where there are no rows
abbrev pub HasBytes : List DocRow → ℕ → Type 0
HasBytes [] bytes = bytes ≡ 0
HasBytes (row ∷ rows) bytes = HasJoinedLength (row ∷ rows) bytes

-- There is room for the job's chunk beside those that stay.
pub record HasRoom (job : Job) (from : SnapshotValue) : Type 0 where
  pub few : length (staying job from) + chunks_of (taken job from) ≤ most_chunks
  pub at : ℕ
  pub need : ℕ
  pub stay : HaveBytes (staying job from) at
  pub new : HasBytes (taken job from) need
  pub small : at + need ≤ MAX_IMAGES

-- There is no room for it, of this kind: there are so many of what stays, and with so many more there would be too many. Chunks are
-- counted first.
abbrev pub Passes : Job → SnapshotValue → FullKind → ℕ → ℕ → Type 0
Passes job from kinds.Chunks at need = (at ≡ length (staying job from)) × (need ≡ chunks_of (taken job from)) × (most_chunks < at + need)
Passes job from kinds.Images at need =
    (length (staying job from) + chunks_of (taken job from) ≤ most_chunks) × HaveBytes (staying job from) at × HasBytes (taken job from) need × (MAX_IMAGES < at + need)
Passes job from kinds.Log at need = ⊥
Passes job from kinds.Documents at need = ⊥
Passes job from kinds.Numbers at need = ⊥
Passes job from kinds.Root at need = ⊥

-- What a job makes of a snapshot: its chunk where there is room, and else the limit that would be passed.
abbrev pub Builds : Job → SnapshotValue → Result NewChunkValue (Or Full) → Type 0
Builds job from (Ok new) = (new.job ≡ job) × (new.from ≡ from) × HasRoom job from × ((schema : Schema) → IsSchema schema → AreOf schema from → IsNewChunk schema new)
Builds job from (Err (faults.Fault full)) = Passes job from full.what full.at full.need
Builds job from (Err faults.NoMemory) = Unit {0}
