use Rattle.std.proofs.Common.{◌≡◌, take, map}
use Rattle.image_write.specs.steps.Places.{place_at}
use Rattle.image_write.proofs.lists.take_row.Given as goal

abbrev pub invariant-loop-number : goal.invariant-loop-number
invariant-loop-number l = map place_at (take l.number l.places) ≡ map (λ hit. (l.row, hit)) l.hits.items
