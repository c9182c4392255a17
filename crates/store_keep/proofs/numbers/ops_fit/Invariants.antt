use Rattle.std.proofs.Common.{ℕ, ◌<◌, get_or}
use Rattle.doc_types.specs.declared.transactions.TxnOp.{TxnOp}
use Rattle.doc_bytes.specs.RoundTrip.{OpNumbers}
use Rattle.store_keep.proofs.numbers.ops_fit.Given as goal

abbrev pub invariant-loop-op : goal.invariant-loop-op
invariant-loop-op l = (d : TxnOp) (k : ℕ) → k < l.op-index → OpNumbers (get_or l.ops k d)
