use Rattle.std.proofs.Common.{◌≤◌, length, take}
use Rattle.std.specs.List.{sum_by}
use Rattle.store_reads.proofs.pieces.piece_size.Given as goal

abbrev pub invariant-loop-number : goal.invariant-loop-number
invariant-loop-number l = l.sum ≤ sum_by (λ entry. length entry.payload.now) (take l.number l.records)
