-- Records of logs: what they were read as, and the rows after them.
use Rattle.std.specs.Prelude.{◌≡◌, ℕ, List, [], Result, Ok, Err, map}
use Rattle.std.specs.List.{fold}
use Rattle.doc_bytes.specs.Reading.{txn_at}
use Rattle.doc_types.specs.declared.schema.Schema.{Schema}
use Rattle.doc_types.specs.declared.transactions.Txn.{Txn}
use Rattle.doc_types.specs.Commits.{Change, change_of}
use Rattle.doc_types.specs.Rows.{Rows, rows_of}
use Rattle.doc_types.specs.Snapshots.{LayerValue, all_living}
use Rattle.gate_log.specs.declared.records.LogRecord.{LogRecord}
use Rattle.store_steps.specs.Batches.{Batch, IsBatchOf, above, after_batch, record_of}
use Rattle.store_steps.specs.declared.damage.Damage.{Damage}
use Rattle.store_steps.specs.declared.damage.DamageKind.TheVariants as kinds

-- the changes of a transaction that was read
abbrev pub changes_in : Result Txn ℕ → List Change
changes_in (Ok txn) = map change_of txn.ops
changes_in (Err left) = []

-- the batch of a record
abbrev pub batch_in : Schema → LogRecord → Batch
batch_in schema r = record { number = r.number; changes = changes_in (txn_at schema r.payload) }

abbrev pub batches_in : Schema → List LogRecord → List Batch
batches_in schema records = map (batch_in schema) records

-- A batch of the schema was read, of which the record is.
pub record IsRead (schema : Schema) (r : LogRecord) : Type 0 where
  pub of : IsBatchOf schema (batch_in schema r)
  pub is : record_of (batch_in schema r) ≡ r

-- the rows after these records, over these rows
abbrev pub rows_from : Schema → ℕ → Rows → List LogRecord → Rows
rows_from schema through old records = fold after_batch old (above through (batches_in schema records))

-- the rows after these records, over those of chunks
abbrev pub rows_after : Schema → List LayerValue → ℕ → List LogRecord → Rows
rows_after schema chunks through records = rows_from schema through (rows_of (all_living chunks)) records

-- the damage of a record that holds no transaction
abbrev pub bad_payload : ℕ → ℕ → Damage
bad_payload file place = record { file = file; place = place; kind = kinds.RecordPayload }
