-- Damage: where the files of an index can't be read, and how. The first place in the order of reading counts: both slots, what the
-- root says, the chunks in their order, ids over all chunks, the older log, the newer one; in a chunk the first part, and in a log the
-- first record.
use Rattle.std.specs.Prelude.{◌≡◌, ◌≢◌, ◌⊎◌, ℕ, zero, suc, ◌+◌, ◌<◌, ◌^◌, List, [], ◌∷◌, ◌++◌, Bool, ◌==◌, ◌&&◌, not, nat_lt, Option, Some, None, Err, length, map, All, AllPairs}
use Rattle.std.specs.List.{AllZip, enumerate_from, list_any, position}
use Rattle.chunk_damage.specs.Damage.{IsBadChunk}
use Rattle.chunk_damage.specs.Header.{row_at}
use Rattle.chunk_image.specs.ChunkImage.{IsImageOf}
use Rattle.image_parts.specs.Images.{HasZones}
use Rattle.doc_types.specs.declared.documents.DocRow.{DocRow}
use Rattle.doc_types.specs.declared.schema.Schema.{Schema}
use Rattle.doc_types.specs.Documents.{AreRowsOf, AreSmall}
use Rattle.doc_types.specs.Snapshots.{LayerValue, all_living, is_dead}
use Rattle.doc_bytes.specs.SchemaText.{schema_text}
use Rattle.doc_bytes.specs.Reading.{txn_at}
use Rattle.chunk_store.specs.Images.{Image}
use Rattle.gate_log.specs.Frames.{frame}
use Rattle.gate_log.specs.Logs.{AreRecords, last_number, spelled}
use Rattle.gate_log.specs.Reading.{Begins, IsCut, IsMisnumbered, MayCome, behind}
use Rattle.gate_log.specs.declared.reading.Before.{Before}
use Rattle.gate_log.specs.declared.reading.Before.TheVariants.{Chunks}
use Rattle.gate_log.specs.declared.records.LogRecord.{LogRecord}
use Rattle.root_slots.specs.Slots.{Slot, IsBelow, IsOpen, slots_of}
use Rattle.root_slots.specs.Choosing.{IsBadRoot}
use Rattle.root_slots.specs.declared.fault.RootKind.{RootKind}
use Rattle.root_slots.specs.declared.fault.RootKind.TheVariants as roots
use Rattle.root_slots.specs.declared.state.ChunkEntry.{ChunkEntry}
use Rattle.root_slots.specs.declared.state.RootState.{RootState}
use Rattle.store_steps.specs.Batches.{Batch, IsBatchOf, record_of}
use Rattle.store_steps.specs.Directory.{Directory, HoldsFiles, IsChunkFile, IsChunkOf, IsOlderLog, layer_from, layers_from, logged}
use Rattle.store_steps.specs.declared.damage.Damage.{Damage}
use Rattle.store_steps.specs.declared.damage.DamageKind.{DamageKind}
use Rattle.store_steps.specs.declared.damage.DamageKind.TheVariants as kinds

-- a fault of a slot, among those of an index
abbrev pub of_root : RootKind → DamageKind
of_root roots.Length = kinds.RootLength
of_root roots.State = kinds.RootState

-- A slot is open and holds no state, the first that is so.
pub record IsBadSlot (x : Image) (damage : Damage) : Type 0 where
  pub kind : RootKind
  pub is : damage.kind ≡ of_root kind
  pub bad : IsBadRoot damage.file damage.place kind (slots_of x)

-- The root stands in this slot.
abbrev pub IsRootIn : ℕ → Slot → Image → Type 0
IsRootIn zero s x = IsOpen s (x 0) × IsBelow (s.number + 1) (x 1)
IsRootIn (suc zero) s x = IsOpen s (x 1) × IsBelow s.number (x 0)
IsRootIn (suc (suc file)) s x = ⊥

-- The columns of the root aren't those of the schema.
abbrev pub IsBadState : Schema → RootState → DamageKind → ℕ → Type 0
IsBadState schema state kinds.RootSchema place = (state.schema_text ≢ schema_text schema) × (place ≡ 13)
IsBadState schema state kind place = ⊥

-- The root can be taken.
abbrev pub IsGoodState : Schema → RootState → Type 0
IsGoodState schema state = state.schema_text ≡ schema_text schema

-- The bytes are the image of these rows of the schema, and as many as the root says.
pub record AreBytesOf (schema : Schema) (entry : ChunkEntry) (rows : List DocRow) (bytes : List ℕ) : Type 0 where
  pub size : length bytes ≡ entry.length
  pub image : IsImageOf schema rows bytes
  pub of : AreRowsOf schema rows
  pub small : AreSmall rows
  pub zones : All HasZones rows

-- What is wrong with the bytes of a chunk's file: there are more or fewer than the root says; they are no image; a row is said to be
-- dead that isn't there; or a row, the first that is so, is newer than the last commit that the chunks have.
abbrev pub AreBadBytes : Schema → ℕ → ChunkEntry → DamageKind → ℕ → List ℕ → Type 0
AreBadBytes schema through entry kinds.ChunkLength place bytes = (length bytes ≢ entry.length) × (place ≡ 0)
AreBadBytes schema through entry (kinds.Image kind) place bytes = (length bytes ≡ entry.length) × IsBadChunk schema bytes (record { place = place; kind = kind })
AreBadBytes schema through entry kinds.DeadRows place bytes = (rows : List DocRow) × AreBytesOf schema entry rows bytes × (All (λ row. row < length rows) entry.dead → ⊥) × (place ≡ 0)
AreBadBytes schema through entry kinds.Born place bytes =
    (rows : List DocRow) × AreBytesOf schema entry rows bytes × All (λ row. row < length rows) entry.dead × ((row : ℕ) × (position (λ row. nat_lt through row.born) rows ≡ Some row) × (place ≡ row_at schema row))
AreBadBytes schema through entry kind place bytes = ⊥

-- The file of a chunk isn't there, or it is wrong at this place.
abbrev pub IsBadFile : Schema → ℕ → ChunkEntry → DamageKind → ℕ → Option (List ℕ) → Type 0
IsBadFile schema through entry kind place None = (kind ≡ kinds.ChunkMissing) × (place ≡ 0)
IsBadFile schema through entry kind place (Some bytes) = AreBadBytes schema through entry kind place bytes

-- Of chunks one is wrong, the first that is.
abbrev pub AreBadChunks : Schema → ℕ → Image → Damage → List ChunkEntry → Type 0
AreBadChunks schema through x damage [] = ⊥
AreBadChunks schema through x damage (entry ∷ entries) =
    ((damage.file ≡ entry.file) × IsBadFile schema through entry damage.kind damage.place (x entry.file))
    ⊎ ((rows : List DocRow) × IsChunkFile schema x entry rows × IsChunkOf schema through entry rows × AreBadChunks schema through x damage entries)

-- The files of the chunks are the images of these rows, and they are as the root says.
pub record AreChunks (schema : Schema) (state : RootState) (x : Image) (chunks : List (List DocRow)) : Type 0 where
  pub files : AllZip (IsChunkFile schema x) state.chunks chunks
  pub rows : AllZip (IsChunkOf schema state.through) state.chunks chunks

-- the row of the layer lives, and its id lives in layers before
abbrev pub is_again : List LayerValue → LayerValue → ℕ × DocRow → Bool
is_again before layer e = not (is_dead layer e.0) && list_any (λ row. row.doc.id == e.1.doc.id) (all_living before)

-- the first such row
abbrev pub again_in : List LayerValue → LayerValue → Option ℕ
again_in before layer = position (is_again before layer) (enumerate_from 0 layer.rows)

-- Behind these layers, this row of the chunk in this file is the first that lives though its id lives before.
abbrev pub IsAgain : List LayerValue → List ChunkEntry → List (List DocRow) → ℕ → ℕ → Type 0
IsAgain before (entry ∷ entries) (rows ∷ chunks) file row =
    ((again_in before (layer_from entry rows) ≡ Some row) × (file ≡ entry.file))
    ⊎ ((again_in before (layer_from entry rows) ≡ None) × IsAgain (before ++ layer_from entry rows ∷ []) entries chunks file row)
IsAgain before entries chunks file row = ⊥

-- The chunks are good one by one, and an id lives in two of them.
pub record HasIdTwice (schema : Schema) (state : RootState) (x : Image) (damage : Damage) : Type 0 where
  pub chunks : List (List DocRow)
  pub are : AreChunks schema state x chunks
  pub row : ℕ
  pub again : IsAgain [] state.chunks chunks damage.file row
  pub kind : damage.kind ≡ kinds.IdTwice
  pub place : damage.place ≡ row_at schema row

-- An open gate stands here, and behind it a record with its gate that may come next, whose payload no transaction of the schema is
-- read from.
pub record IsBadPayload (schema : Schema) (before : Before) (rest : List ℕ) : Type 0 where
  pub record_is : LogRecord
  pub after : List ℕ
  pub short : length record_is.payload < 2 ^ 32
  pub number : record_is.number < 2 ^ 63
  pub may : MayCome before record_is.number
  pub gate : 0 < length after
  pub is : rest ≡ 1 ∷ (frame record_is ++ after)
  pub left : ℕ
  pub wrong : txn_at schema record_is.payload ≡ Err left

-- what is wrong where a gate should stand
abbrev pub IsWrong : Schema → DamageKind → Before → List ℕ → Type 0
IsWrong schema kinds.RecordLength before rest = IsCut rest
IsWrong schema kinds.RecordNumber before rest = IsMisnumbered before rest
IsWrong schema kinds.RecordPayload before rest = IsBadPayload schema before rest
IsWrong schema kind before rest = ⊥

-- The bytes of a log are these batches as far as this place, and there they are wrong.
pub record IsBadBehind (schema : Schema) (before : Before) (kind : DamageKind) (place : ℕ) (batches : List Batch) (bytes : List ℕ) : Type 0 where
  pub records_are : AreRecords (map record_of batches)
  pub begins : Begins before (map record_of batches)
  pub of : All (IsBatchOf schema) batches
  pub rest : List ℕ
  pub is : bytes ≡ spelled (map record_of batches) ++ rest
  -- a gate stands behind each record
  pub gated : 0 < length batches → 0 < length rest
  pub place_is : place ≡ length (spelled (map record_of batches))
  pub wrong : IsWrong schema kind (behind before (last_number (map record_of batches))) rest

-- A log isn't there, or it is wrong at this place.
abbrev pub IsBadLog : Schema → Before → DamageKind → ℕ → Option (List ℕ) → Type 0
IsBadLog schema before kind place None = (kind ≡ kinds.LogMissing) × (place ≡ 0)
IsBadLog schema before kind place (Some bytes) = (batches : List Batch) × IsBadBehind schema before kind place batches bytes

-- The older log is wrong, where there is one.
abbrev pub IsBadOlder : Schema → RootState → Image → Damage → Type 0
IsBadOlder schema state x damage = (state.older ≢ 0) × (damage.file ≡ state.older) × IsBadLog schema (Chunks state.through) damage.kind damage.place (x state.older)

-- The older log has these batches, and the newer one is wrong.
pub record IsBadNewer (schema : Schema) (state : RootState) (x : Image) (damage : Damage) : Type 0 where
  pub older : List Batch
  pub is_older : IsOlderLog x state.older older
  pub begins : Begins (Chunks state.through) (map record_of older)
  pub of : All (IsBatchOf schema) older
  pub file : damage.file ≡ state.newer
  pub bad : IsBadLog schema (behind (Chunks state.through) (last_number (map record_of older))) damage.kind damage.place (x state.newer)

-- The root can't be taken.
pub record IsBadRootState (schema : Schema) (x : Image) (damage : Damage) : Type 0 where
  pub root : Slot
  pub stands : IsRootIn damage.file root x
  pub bad : IsBadState schema root.state damage.kind damage.place

-- The root can be taken, and its chunks are wrong.
pub record HasBadChunks (schema : Schema) (x : Image) (damage : Damage) : Type 0 where
  pub file : ℕ
  pub root : Slot
  pub stands : IsRootIn file root x
  pub good : IsGoodState schema root.state
  pub bad : AreBadChunks schema root.state.through x damage root.state.chunks ⊎ HasIdTwice schema root.state x damage

-- The root can be taken, its chunks are good, and one of its logs is wrong.
pub record AreBadLogs (schema : Schema) (x : Image) (damage : Damage) : Type 0 where
  pub file : ℕ
  pub root : Slot
  pub stands : IsRootIn file root x
  pub good : IsGoodState schema root.state
  pub chunks : List (List DocRow)
  pub are : AreChunks schema root.state x chunks
  pub once : AllPairs (λ row other. row.doc.id ≢ other.doc.id) (all_living (layers_from root.state.chunks chunks))
  pub bad : IsBadOlder schema root.state x damage ⊎ IsBadNewer schema root.state x damage

-- the closed gate behind the last record of two logs, of which the older one may be the one that has it
abbrev pub IsLastGate : RootState → List Batch → List Batch → ℕ → ℕ → Type 0
IsLastGate state older [] file place = (file ≡ state.older) × (place ≡ length (spelled (map record_of older)))
IsLastGate state older (b ∷ newer) file place = (file ≡ state.newer) × (place ≡ length (spelled (map record_of (b ∷ newer))))

-- The files are those of a directory, but its logs have records, and each is numbered below the last commit that the chunks have: the
-- next one would have a number that a chunk has. This is told at the gate where it would stand.
pub record EndsEarly (schema : Schema) (x : Image) (damage : Damage) : Type 0 where
  pub dir : Directory
  pub holds : HoldsFiles schema dir x
  pub some : 0 < length (logged dir)
  pub early : All (λ b. b.number < dir.state.through) (logged dir)
  pub kind : damage.kind ≡ kinds.RecordNumber
  pub gate : IsLastGate dir.state dir.older dir.newer damage.file damage.place

-- The files of an index are damaged so.
abbrev pub IsDamaged : Schema → Image → Damage → Type 0
IsDamaged schema x damage =
    IsBadSlot x damage ⊎ (IsBadRootState schema x damage ⊎ (HasBadChunks schema x damage ⊎ (AreBadLogs schema x damage ⊎ EndsEarly schema x damage)))
