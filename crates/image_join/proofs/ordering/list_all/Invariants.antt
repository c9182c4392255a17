use Rattle.std.proofs.Common.{◌≡◌, take}
use Rattle.image_join.specs.steps.Numbering.{all_living_in}
use Rattle.image_join.proofs.ordering.list_all.Given as goal

abbrev pub invariant-loop-number : goal.invariant-loop-number
invariant-loop-number g l = l.order.items ≡ all_living_in (take l.number l.parts)
