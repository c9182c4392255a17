use Rattle.std.proofs.Common.{◌≡◌, ◌++◌, take}
use Rattle.image_join.proofs.Livings.{living_among}
use Rattle.image_join.proofs.ordering.list_living.Given as goal

abbrev pub invariant-loop-row : goal.invariant-loop-row
invariant-loop-row g l = l.order.items ≡ l.initial.order.items ++ living_among l.number l.part.dead (take l.row l.part.rows)
