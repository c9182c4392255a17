use Rattle.std.proofs.Common.{◌≡◌, map, take}
use Rattle.std.specs.List.{count_by}
use Rattle.rankers.specs.Weight.{greatest, in_field, same_offset}
use Rattle.rankers.proofs.offsets.longest_in_any_order.Given as goal

abbrev pub invariant-loop-hit : goal.invariant-loop-hit
invariant-loop-hit l = l.most ≡ greatest (map (λ hit. count_by (same_offset hit) (in_field l.field l.hits)) (in_field l.field (take l.hit-index l.hits)))
