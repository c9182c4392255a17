use Rattle.std.proofs.Common.{take}
use Rattle.rankers.proofs.OffsetRing.{IsRing}
use Rattle.rankers.proofs.offsets.longest_in_order.Given as goal

abbrev pub invariant-loop-hit : goal.invariant-loop-hit
invariant-loop-hit l = IsRing l.field l.reached l.offsets l.counts l.most (take l.hit-index l.hits)
