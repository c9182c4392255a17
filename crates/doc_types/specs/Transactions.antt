-- Transactions of a schema.
use Rattle.std.specs.Prelude.{◌<◌, ◌^◌, All, length}
use Rattle.doc_types.specs.declared.schema.Schema.{Schema}
use Rattle.doc_types.specs.declared.transactions.Txn.{Txn}
use Rattle.doc_types.specs.declared.transactions.TxnOp.{TxnOp}
use Rattle.doc_types.specs.declared.transactions.TxnOp.TheVariants as operations
use Rattle.doc_types.specs.Documents.{IsDocOf}

-- an operation of a schema: its document is of it, if it has one
abbrev pub IsOpOf : Schema → TxnOp → Type 0
IsOpOf schema (operations.Insert doc) = IsDocOf schema doc
IsOpOf schema (operations.Put doc) = IsDocOf schema doc
IsOpOf schema (operations.Kill id) = Unit {0}
IsOpOf schema operations.Clear = Unit {0}

-- a transaction of a schema
pub record IsTxnOf (schema : Schema) (txn : Txn) : Type 0 where
  pub few : length txn.ops < 2 ^ 32
  pub operations : All (IsOpOf schema) txn.ops
