-- Operations that wait for their commit.
use Rattle.std.specs.Prelude.{ℕ, List}
use Rattle.doc_types.specs.declared.transactions.TxnOp.{TxnOp}
use Rattle.doc_types.specs.Payloads.{payload_length}

-- the index, by its place, and the operations on it
pub record PendingValue : Type 0 where
  pub place : ℕ
  pub ops : List TxnOp

-- how many bytes the operations take in a log
abbrev pub size_of : List TxnOp → ℕ
size_of ops = payload_length (record { ops = ops })
