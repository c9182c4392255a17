use Rattle.std.proofs.Common.{◌≡◌, ◌+◌, ◌-◌, ◌^◌, min, take}
use Rattle.std.specs.List.{sum_by}
use Rattle.doc_types.specs.Payloads.{op_length}
use Rattle.doc_types.proofs.payload.txn_bytes.Given as goal

abbrev pub invariant-loop-op : goal.invariant-loop-op
invariant-loop-op l = l.bytes ≡ min (4 + sum_by op_length (take l.op-index l.op-items)) (2 ^ 64 - 1)
