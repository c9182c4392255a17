-- What reading chunks one after the other comes to, and looking for ids that live twice.
use Rattle.std.specs.Prelude.{◌≡◌, ℕ, ◌<◌, List, [], ◌∷◌, ◌++◌, Option, Some, None, Vec, Result, Ok, Err, All, AllPairs}
use Rattle.std.specs.declared.alloc.Global.{Global}
use Rattle.std.specs.List.{AllZip}
use Rattle.srch_base.specs.declared.faults.Or.{Or}
use Rattle.srch_base.specs.declared.faults.Or.TheVariants as causes
use Rattle.chunk_damage.specs.Header.{row_at}
use Rattle.chunk_store.specs.Images.{Image, Told}
use Rattle.doc_types.specs.declared.documents.DocRow.{DocRow}
use Rattle.doc_types.specs.declared.schema.Schema.{Schema}
use Rattle.doc_types.specs.Snapshots.{LayerValue}
use Rattle.root_slots.specs.declared.state.ChunkEntry.{ChunkEntry}
use Rattle.store_steps.specs.Damage.{AreBadChunks, IsAgain, IsBadFile, again_in}
use Rattle.store_steps.specs.Directory.{IsChunkFile, IsChunkOf, layer_from, layers_from}
use Rattle.store_steps.specs.declared.damage.Damage.{Damage}
use Rattle.store_steps.specs.declared.damage.DamageKind.TheVariants as kinds
use Rattle.chunk_files.specs.declared.fault.ChunkFault.{ChunkFault}
use Rattle.chunk_files.specs.declared.fault.ChunkFault.TheVariants as faults
use Rattle.chunk_files.specs.steps.Files.{damaged}

-- the dead rows of each chunk ascend
abbrev pub AscendAll : List ChunkEntry → Type 0
AscendAll entries = All (λ entry. AllPairs (λ row later. row < later) entry.dead) entries

-- what reading one chunk comes to
abbrev pub ReadsOne : Schema → ℕ → ChunkEntry → Option Image → Result LayerValue (Or ChunkFault) → Type 0
ReadsOne schema through entry told (Ok layer) = (rows : List DocRow) × (layer ≡ layer_from entry rows) × IsChunkOf schema through entry rows × Told (λ x. IsChunkFile schema x entry rows) told
ReadsOne schema through entry told (Err causes.NoMemory) = Unit {0}
ReadsOne schema through entry told (Err (causes.Fault faults.Failed)) = Unit {0}
ReadsOne schema through entry told (Err (causes.Fault (faults.Damaged damage))) = (damage.file ≡ entry.file) × Told (λ x. IsBadFile schema through entry damage.kind damage.place (x entry.file)) told

-- These layers were read of chunks.
pub record AreFront (schema : Schema) (through : ℕ) (entries : List ChunkEntry) (told : Option Image) (layers : List LayerValue) : Type 0 where
  pub chunks : List (List DocRow)
  pub are : layers ≡ layers_from entries chunks
  pub rows : AllZip (IsChunkOf schema through) entries chunks
  pub files : Told (λ x. AllZip (IsChunkFile schema x) entries chunks) told

-- why chunks aren't read
abbrev pub Refuses : Schema → ℕ → List ChunkEntry → Option Image → Or ChunkFault → Type 0
Refuses schema through entries told causes.NoMemory = Unit {0}
Refuses schema through entries told (causes.Fault faults.Failed) = Unit {0}
Refuses schema through entries told (causes.Fault (faults.Damaged damage)) = Told (λ x. AreBadChunks schema through x damage entries) told

-- what reading chunks comes to
abbrev pub ReadsFiles : Schema → ℕ → List ChunkEntry → Option Image → Result (Vec LayerValue Global) (Or ChunkFault) → Type 0
ReadsFiles schema through entries told (Ok layers) = AreFront schema through entries told layers.items
ReadsFiles schema through entries told (Err fault) = Refuses schema through entries told fault

-- behind these layers, no row lives whose id lives before
abbrev pub NoneAgain : List LayerValue → List ChunkEntry → List (List DocRow) → Type 0
NoneAgain before (entry ∷ entries) (rows ∷ chunks) = (again_in before (layer_from entry rows) ≡ None) × NoneAgain (before ++ layer_from entry rows ∷ []) entries chunks
NoneAgain before entries chunks = Unit {0}

-- what looking for one comes to
abbrev pub ReadsAgain : Schema → List LayerValue → List ChunkEntry → List (List DocRow) → Option Damage → Type 0
ReadsAgain schema before entries chunks None = NoneAgain before entries chunks
ReadsAgain schema before entries chunks (Some damage) = (row : ℕ) × IsAgain before entries chunks damage.file row × (damage ≡ damaged damage.file (row_at schema row) kinds.IdTwice)
