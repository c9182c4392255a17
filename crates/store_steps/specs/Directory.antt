-- Directories: what the files of an index hold, and which documents they stand for.
--
-- A root names chunks and logs. Its chunks have the commits up to `through`, its logs those that came since, and maybe some of
-- them. A file that no root names doesn't count. Where no slot is open, there is an index without documents.
use Rattle.std.specs.Prelude.{◌≡◌, ◌≢◌, ℕ, zero, suc, ◌+◌, ◌≤◌, ◌<◌, List, [], ◌∷◌, ◌++◌, true, Option, Some, None, length, map, All, AllPairs}
use Rattle.std.specs.List.{fold, AllZip}
use Rattle.std.specs.FinMap as finite
use Rattle.doc_types.specs.declared.documents.DocRow.{DocRow}
use Rattle.doc_types.specs.declared.schema.Schema.{Schema}
use Rattle.doc_types.specs.Documents.{AreRowsOf, AreSmall}
use Rattle.doc_types.specs.Rows.{Rows, rows_of}
use Rattle.doc_types.specs.Snapshots.{LayerValue, all_living}
use Rattle.doc_bytes.specs.SchemaText.{schema_text}
use Rattle.chunk_image.specs.ChunkImage.{IsImageOf}
use Rattle.image_parts.specs.Images.{HasZones}
use Rattle.chunk_store.specs.Images.{Image, contents}
use Rattle.gate_log.specs.Logs.{IsLogOf}
use Rattle.root_slots.specs.Slots.{IsRoot, slots_of}
use Rattle.root_slots.specs.declared.state.RootState.{RootState}
use Rattle.root_slots.specs.declared.state.ChunkEntry.{ChunkEntry}
use Rattle.store_steps.specs.Batches.{Batch, AreFrom, IsBatchOf, above, after_batch, record_of}

-- What the files hold of which the open slot tells: its state, the rows of each chunk that it names, and the batches of its two
-- logs.
pub record Directory : Type 0 where
  pub state : RootState
  pub chunks : List (List DocRow)
  pub older : List Batch
  pub newer : List Batch

-- the batches of both logs
abbrev pub logged : Directory → List Batch
logged dir = dir.older ++ dir.newer

-- a chunk as a layer
abbrev pub layer_from : ChunkEntry → List DocRow → LayerValue
layer_from entry rows = record { rows = rows; disk = true; dead = entry.dead }

-- the chunks as layers
abbrev pub layers_from : List ChunkEntry → List (List DocRow) → List LayerValue
layers_from [] chunks = []
layers_from (entry ∷ entries) [] = []
layers_from (entry ∷ entries) (rows ∷ chunks) = layer_from entry rows ∷ layers_from entries chunks

abbrev pub layers_of : Directory → List LayerValue
layers_of dir = layers_from dir.state.chunks dir.chunks

-- The file is the image of these rows, and as long as the root says.
pub record IsChunkFile (schema : Schema) (x : Image) (entry : ChunkEntry) (rows : List DocRow) : Type 0 where
  pub bytes : List ℕ
  pub is : x entry.file ≡ Some bytes
  pub size : length bytes ≡ entry.length
  pub image : IsImageOf schema rows bytes

-- The older log has these batches, where there is one.
abbrev pub IsOlderLog : Image → ℕ → List Batch → Type 0
IsOlderLog x zero batches = batches ≡ []
IsOlderLog x (suc file) batches = IsLogOf (map record_of batches) (contents (x (suc file)))

-- The files but the newer log are those of the directory, whose root has this number.
pub record AreFiles (schema : Schema) (dir : Directory) (number : ℕ) (x : Image) : Type 0 where
  pub root : IsRoot (Some (record { number = number; state = dir.state })) (slots_of x)
  pub chunks : AllZip (IsChunkFile schema x) dir.state.chunks dir.chunks
  pub older : IsOlderLog x dir.state.older dir.older

-- Rows of a chunk: of the schema, with zones that have room in 16 bits, and no newer than the last commit that the chunks have; and
-- of them these are dead.
pub record IsChunkOf (schema : Schema) (through : ℕ) (entry : ChunkEntry) (rows : List DocRow) : Type 0 where
  pub of : AreRowsOf schema rows
  pub small : AreSmall rows
  pub zones : All HasZones rows
  pub dead : All (λ row. row < length rows) entry.dead
  pub born : All (λ row. row.born ≤ through) rows

-- What the files hold fits together: the columns are the schema's, no id lives in two chunks, and the logs have the commits in
-- order, with none left out behind those that the chunks have.
pub record IsInOrder (schema : Schema) (dir : Directory) : Type 0 where
  pub text : dir.state.schema_text ≡ schema_text schema
  pub chunks : AllZip (IsChunkOf schema dir.state.through) dir.state.chunks dir.chunks
  pub once : AllPairs (λ row other. row.doc.id ≢ other.doc.id) (all_living (layers_of dir))
  pub numbers : (first : ℕ) × (first ≤ dir.state.through + 1) × AreFrom first (logged dir)
  pub batches : All (IsBatchOf schema) (logged dir)

-- the batches that the chunks don't have
abbrev pub taken : Directory → List Batch
taken dir = above dir.state.through (logged dir)

-- the rows that a directory stands for
abbrev pub directory_rows : Directory → Rows
directory_rows dir = fold after_batch (rows_of (all_living (layers_of dir))) (taken dir)

-- the number of the last commit
abbrev pub directory_number : Directory → ℕ
directory_number dir = fold (λ number b. b.number) dir.state.through (taken dir)

-- The logs reach as far as the chunks do: the number of the next commit is the one that comes next in them.
pub record Reaches (dir : Directory) : Type 0 where
  pub first : ℕ
  pub low : first ≤ dir.state.through + 1
  pub numbers : AreFrom first (logged dir)
  pub next : directory_number dir + 1 ≡ first + length (logged dir)

-- The image has the files of the directory, and they fit together.
pub record HoldsFiles (schema : Schema) (dir : Directory) (x : Image) : Type 0 where
  pub number : ℕ
  pub files : AreFiles schema dir number x
  pub newer : IsLogOf (map record_of dir.newer) (contents (x dir.state.newer))
  pub in_order : IsInOrder schema dir

-- What an image holds: a directory whose logs reach as far as its chunks, or nothing where no slot is open.
abbrev pub Holds : Schema → Option Directory → Image → Type 0
Holds schema None x = IsRoot None (slots_of x)
Holds schema (Some dir) x = HoldsFiles schema dir x × Reaches dir

abbrev pub rows_in : Option Directory → Rows
rows_in None = finite.empty
rows_in (Some dir) = directory_rows dir

abbrev pub number_in : Option Directory → ℕ
number_in None = 0
number_in (Some dir) = directory_number dir

-- the last commit that the chunks have
abbrev pub through_in : Option Directory → ℕ
through_in None = 0
through_in (Some dir) = dir.state.through

-- What an image stands for, where it can be read: these rows, after the commit of this number.
pub record StandsFor (schema : Schema) (x : Image) (rows : Rows) (number : ℕ) : Type 0 where
  pub found : Option Directory
  pub holds : Holds schema found x
  pub rows_are : rows_in found ≡ rows
  pub number_is : number_in found ≡ number
