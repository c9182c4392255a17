-- Pieces of a log: what their records come to over any rows before them, and the layers that they become.
use Rattle.std.specs.Prelude.{◌≡◌, ℕ, ◌<◌, ◌≤◌, ◌^◌, List, [], ◌∷◌, ◌++◌, Some, true, not, nat_lt, Result, Ok, Err, All, length, map}
use Rattle.std.specs.BTreeMap.{IsOrdered}
use Rattle.std.specs.FinMap as finite
use Rattle.std.specs.List.Sorted.{IsStrictlySortedBy}
use Rattle.std.specs.Map.{values_of}
use Rattle.std.specs.Ordering.{nat_cmp}
use Rattle.doc_bytes.specs.Reading.{txn_at}
use Rattle.doc_types.specs.declared.documents.DocRow.{DocRow}
use Rattle.doc_types.specs.declared.schema.Schema.{Schema}
use Rattle.doc_types.specs.declared.transactions.TxnOp.{TxnOp}
use Rattle.doc_types.specs.Chunks.{IsContent}
use Rattle.doc_types.specs.Commits.{change_of}
use Rattle.doc_types.specs.Rows.{Rows}
use Rattle.doc_types.specs.Documents.{AreRowsOf}
use Rattle.doc_types.specs.Snapshots.{LayerValue, SnapshotValue, all_living, live}
use Rattle.gate_log.specs.Reading.{record_of}
use Rattle.gate_log.specs.declared.reading.RecordAt.{RecordAt}
use Rattle.gate_log.specs.declared.records.LogRecord.{LogRecord}
use Rattle.store_steps.specs.declared.damage.Damage.{Damage}
use Rattle.store_reads.specs.declared.fault.StoreFault.{StoreFault}
use Rattle.store_reads.specs.declared.fault.StoreFault.TheVariants as faults
use Rattle.image_chunk.specs.contracts.image_chunk.ImageChunkChunk.TheImpl as words
use Rattle.store_reads.specs.declared.pieces.Piece.{Piece}
use Rattle.store_reads.specs.declared.recent.Recent.{Recent}
use Rattle.step_history.specs.History.{AreOf}
use Rattle.step_history.specs.Places.{disk_chunks, on_disk}
use Rattle.store_reads.specs.steps.Recents.{AreRowsAt, Changes, Owns, row_from}
use Rattle.store_reads.specs.steps.Records.{IsRead, bad_payload, rows_after, rows_from}

-- Records have payloads that can be read.
abbrev pub AreShort : List RecordAt → Type 0
AreShort entries = All (λ entry. length entry.payload.now < 2 ^ 32) entries

-- These records were taken: over any rows before them, what is recent makes the rows that they make.
pub record IsTaken (schema : Schema) (through : ℕ) (records : List LogRecord) (recent : Recent) : Type 0 where
  pub all : All (IsRead schema) records
  pub rows : (old : Rows) (id : ℕ) → row_from recent (finite.get old id) id ≡ finite.get (rows_from schema through old records) id
  pub each : AreRowsAt schema through recent.rows
  pub own : Owns recent

-- A commit's operations were taken, unless the chunks have it.
pub record Takes (through number : ℕ) (ops : List TxnOp) (old new : Recent) : Type 0 where
  pub later : through < number → Changes number (map change_of ops) old new
  pub earlier : number ≤ through → new ≡ old

-- what taking a record behind these comes to
abbrev pub TakesRecord : Schema → ℕ → List LogRecord → RecordAt → ℕ → Result (Unit {0}) StoreFault → Recent → Type 0
TakesRecord schema through front entry file (Ok done) new = IsTaken schema through (front ++ record_of entry ∷ []) new
TakesRecord schema through front entry file (Err faults.NoMemory) new = Unit {0}
TakesRecord schema through front entry file (Err faults.DiskFault) new = ⊥
TakesRecord schema through front entry file (Err (faults.Damaged damage)) new = (damage ≡ bad_payload file entry.place) × ((left : ℕ) × (txn_at schema entry.payload.now ≡ Err left))

-- One of the records holds no transaction, and those before it were read.
pub record IsBadAt (schema : Schema) (file : ℕ) (entries : List RecordAt) (damage : Damage) : Type 0 where
  pub front : List RecordAt
  pub entry : RecordAt
  pub back : List RecordAt
  pub are : entries ≡ front ++ entry ∷ back
  pub read : All (IsRead schema) (map record_of front)
  pub damage_is : damage ≡ bad_payload file entry.place
  pub left : ℕ
  pub wrong : txn_at schema entry.payload.now ≡ Err left

-- why the records of a piece weren't taken
abbrev pub RefusesPiece : Schema → ℕ → List RecordAt → StoreFault → Type 0
RefusesPiece schema file entries faults.NoMemory = Unit {0}
RefusesPiece schema file entries faults.DiskFault = ⊥
RefusesPiece schema file entries (faults.Damaged damage) = IsBadAt schema file entries damage

-- what reading the records of a piece comes to
abbrev pub ReadsPiece : Schema → ℕ → ℕ → List RecordAt → Result Recent StoreFault → Type 0
ReadsPiece schema through file entries (Ok recent) = IsTaken schema through (map record_of entries) recent
ReadsPiece schema through file entries (Err fault) = RefusesPiece schema file entries fault

-- the rows of a piece
abbrev pub piece_rows : Piece → List DocRow
piece_rows piece = words.ghosts.content piece.chunk

-- What is recent was made a piece: whether all rows before are gone, the ids whose rows are, and the rows.
pub record IsMade (recent : Recent) (piece : Piece) : Type 0 where
  pub cleared_is : piece.cleared ≡ recent.cleared
  pub named_are : piece.named.items ≡ recent.named.keys
  pub ascend : IsStrictlySortedBy nat_cmp recent.named.keys
  pub rows_are : piece_rows piece ≡ values_of recent.rows.entries
  pub ordered : IsOrdered nat_cmp recent.rows
  pub content : IsContent (piece_rows piece)

-- The piece of these records.
pub record IsPiece (schema : Schema) (through : ℕ) (records : List LogRecord) (piece : Piece) : Type 0 where
  pub recent : Recent
  pub taken : IsTaken schema through records recent
  pub made : IsMade recent piece

-- what making a piece of records comes to
abbrev pub MakesPiece : Schema → ℕ → ℕ → List RecordAt → Result Piece StoreFault → Type 0
MakesPiece schema through file entries (Ok piece) = IsPiece schema through (map record_of entries) piece
MakesPiece schema through file entries (Err fault) = RefusesPiece schema file entries fault

-- The layers of the chunks of a root, with rows of the schema that aren't newer than this commit.
pub record AreChunks (schema : Schema) (through : ℕ) (chunks : List LayerValue) : Type 0 where
  pub disk : All (λ layer. layer.disk ≡ true) chunks
  pub old : All (λ row. row.born ≤ through) (all_living chunks)
  pub of : All (λ layer. AreRowsOf schema layer.rows) chunks

-- Layers over these chunks: on the disk are theirs, and a row lives there exactly where they have it.
pub record IsLaid (schema : Schema) (chunks : List LayerValue) (through : ℕ) (laid : SnapshotValue) : Type 0 where
  pub shape_is : laid.shape ≡ 0
  pub chunks_are : disk_chunks laid ≡ map (λ layer. layer.rows) chunks
  pub places : (id : ℕ) (row : DocRow) → finite.get (live laid) id ≡ Some row → on_disk laid id ≡ not (nat_lt through row.born)
  pub of : AreOf schema laid

-- These records were read, and the layers have the rows after them over those of the chunks, and nothing else.
pub record IsLaidOf (schema : Schema) (chunks : List LayerValue) (through : ℕ) (records : List LogRecord) (snapshot : SnapshotValue) : Type 0 where
  pub all : All (IsRead schema) records
  pub rows : live snapshot ≡ rows_after schema chunks through records
  pub laid : IsLaid schema chunks through snapshot

-- what laying records behind these comes to
abbrev pub Lays : Schema → List LayerValue → ℕ → List LogRecord → ℕ → List RecordAt → Result (Unit {0}) StoreFault → SnapshotValue → Type 0
Lays schema chunks through front file entries (Ok done) new = IsLaidOf schema chunks through (front ++ map record_of entries) new
Lays schema chunks through front file entries (Err fault) new = RefusesPiece schema file entries fault
