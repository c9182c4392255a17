-- Chunks that jobs make: of which snapshot, of which rows, and with which bytes.
use Rattle.std.specs.Prelude.{◌≡◌, ℕ, ◌+◌, ◌*◌, ◌<◌, ◌≤◌, List, [], true, All, Option, Some, None, IfSome, length}
use Rattle.std.specs.declared.alloc.Global.{Global}
use Rattle.std.specs.declared.sync.Arc.{Arc}
use Rattle.std.specs.Arc.{arc_value}
use Rattle.std.specs.Option.{option_map}
use Rattle.std.specs.List.Sorted.{IsPermutation}
use Rattle.doc_types.specs.declared.documents.DocRow.{DocRow}
use Rattle.doc_types.specs.declared.schema.Schema.{Schema}
use Rattle.doc_types.specs.Chunks.{IsContent}
use Rattle.doc_types.specs.Snapshots.{LayerValue, SnapshotValue}
use Rattle.chunk_image.specs.ChunkImage.{IsImageOf}
use Rattle.image_parts.specs.Images.{HasZones}
use Rattle.image_chunk.specs.declared.image_chunk.ImageChunk.{ImageChunk}
use Rattle.root_slots.specs.States.{most_chunks}
use Rattle.reshape_laws.specs.Rebasing.{some_chunk, staying, taken}
use Rattle.step_history.specs.declared.job.Job.{Job}

-- What a job made of the snapshot over which it began: a chunk of these rows, with these bytes, or none where there are no rows.
pub record NewChunkValue : Type 0 where
  pub job : Job
  pub from : SnapshotValue
  pub rows : List DocRow
  pub image : Option (List ℕ)

-- the rows and the bytes of a chunk, if there is one
abbrev pub rows_of : Option (Arc ImageChunk Global) → List DocRow
rows_of None = []
rows_of (Some chunk) = (arc_value chunk).image.0.0

abbrev pub image_of : Option (Arc ImageChunk Global) → Option (List ℕ)
image_of None = None
image_of (Some chunk) = Some (arc_value chunk).bytes

-- the chunk as a layer on the disk, in which all rows live
abbrev pub layer_in : NewChunkValue → Option LayerValue
layer_in new = option_map (λ bytes. record { rows = new.rows; disk = true; dead = [] }) new.image

-- There are no more rows than an image has room for: each takes 20 bytes at least.
abbrev pub HasFewRows : List DocRow → Type 0
HasFewRows rows = 20 * length rows ≤ 536870912

-- The bytes are the image of the rows, or there are none.
abbrev pub IsImaged : Schema → List DocRow → Option (List ℕ) → Type 0
IsImaged schema rows None = rows ≡ []
IsImaged schema rows (Some bytes) = (0 < length rows) × IsImageOf schema rows bytes

-- The chunk is what the job makes of its snapshot: the rows that live in what the job takes, by some order in which a chunk has them,
-- and their image. With it there are no more chunks than an index has.
pub record IsNewChunk (schema : Schema) (new : NewChunkValue) : Type 0 where
  pub moved : IsPermutation (taken new.job new.from) new.rows
  pub content : IsContent new.rows
  pub zones : All HasZones new.rows
  pub imaged : IsImaged schema new.rows new.image
  pub small : IfSome new.image (λ bytes. length bytes ≤ 536870912)
  pub few : length (staying new.job new.from) + length (some_chunk new.rows) ≤ most_chunks
