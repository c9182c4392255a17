-- What stays on the disk while a job makes its chunk, and what it makes of the rows that it takes.
use Rattle.std.specs.Prelude.{◌≡◌, ℕ, ◌+◌, ◌<◌, ◌≤◌, List, [], Bool, false, All, Option, Some, None, length}
use Rattle.doc_types.specs.declared.documents.DocRow.{DocRow}
use Rattle.doc_types.specs.Snapshots.{LayerValue, SnapshotValue}
use Rattle.commit_outcomes.specs.declared.outcome.FullKind.{FullKind}
use Rattle.commit_outcomes.specs.declared.outcome.FullKind.TheVariants as kinds
use Rattle.image_chunk.specs.declared.image_chunk.ImageChunk.{ImageChunk}
use Rattle.image_join.specs.JoinedImages.{IsJoinedImage}
use Rattle.image_parts.specs.Images.{HasZones}
use Rattle.root_slots.specs.States.{most_chunks}
use Rattle.step_history.specs.declared.job.Job.{Job}
use Rattle.step_history.specs.declared.job.Job.TheVariants.{Flush, Optimize}
use Rattle.reshape_laws.specs.Rebasing.{staying, taken}
use Rattle.job_chunks.specs.Chunks.{NewChunkValue}
use Rattle.job_chunks.specs.Limits.{HasBytes, HaveBytes, chunks_of}
use Rattle.job_chunks.specs.declared.limits.TheConstants.{MAX_IMAGES}
use Rattle.job_chunks.specs.declared.limits.Staying.{Staying}
use Rattle.job_chunks.specs.declared.making.Made.{Made}
use Rattle.job_chunks.specs.declared.making.Made.TheVariants as mades

-- the job leaves the layer on the disk
abbrev pub stays : Job → LayerValue → Bool
stays Flush layer = layer.disk
stays Optimize layer = false

-- how many chunks these layers have, and how many bytes their images
pub record AreStaying (layers : List LayerValue) (s : Staying) : Type 0 where
  pub chunks : s.chunks ≡ length layers
  pub bytes : HaveBytes layers s.bytes

-- a chunk over the image of the rows
pub record IsMade (rows : List DocRow) (at : ℕ) (chunk : ImageChunk) : Type 0 where
  pub image : List ℕ
  pub joined : IsJoinedImage rows image
  pub bytes_are : chunk.bytes ≡ image
  pub rows_are : chunk.image.0.0 ≡ joined.rows
  pub zones : All HasZones chunk.image.0.0
  pub small : length image ≤ 536870912
  pub room : at + length image ≤ MAX_IMAGES

-- a limit that would be passed beside what stays
abbrev pub Stops : List DocRow → Staying → FullKind → ℕ → ℕ → Type 0
Stops rows s kinds.Chunks at need = (at ≡ s.chunks) × (need ≡ chunks_of rows) × (most_chunks < at + need)
Stops rows s kinds.Images at need = (s.chunks + chunks_of rows ≤ most_chunks) × (at ≡ s.bytes) × HasBytes rows need × (MAX_IMAGES < at + need)
Stops rows s kinds.Log at need = ⊥
Stops rows s kinds.Documents at need = ⊥
Stops rows s kinds.Numbers at need = ⊥
Stops rows s kinds.Root at need = ⊥

-- a chunk of the rows, if there are some, or a limit
abbrev pub Makes : List DocRow → Staying → Made → Type 0
Makes rows s (mades.Chunk None) = (rows ≡ []) × (s.chunks + chunks_of rows ≤ most_chunks) × (s.bytes ≤ MAX_IMAGES)
Makes rows s (mades.Chunk (Some chunk)) = (0 < length rows) × (s.chunks + chunks_of rows ≤ most_chunks) × IsMade rows s.bytes chunk
Makes rows s (mades.Full full) = Stops rows s full.what full.at full.need

-- the same of rows of which there are some, where the chunks are few
abbrev pub Joins : List DocRow → ℕ → Made → Type 0
Joins rows at (mades.Chunk None) = ⊥
Joins rows at (mades.Chunk (Some chunk)) = IsMade rows at chunk
Joins rows at (mades.Full full) = (full.what ≡ kinds.Images) × (full.at ≡ at) × HasBytes rows full.need × (MAX_IMAGES < full.at + full.need)

-- the same of what a job takes, beside what it leaves
pub record Takes (job : Job) (from : SnapshotValue) (made : Made) : Type 0 where
  pub s : Staying
  pub stays : AreStaying (staying job from) s
  pub makes : Makes (taken job from) s made

-- a chunk, as a job hands it on
abbrev pub chunk_by : Job → SnapshotValue → Option ImageChunk → NewChunkValue
chunk_by job from None = record { job = job; from = from; rows = []; image = None }
chunk_by job from (Some chunk) = record { job = job; from = from; rows = chunk.image.0.0; image = Some chunk.bytes }
