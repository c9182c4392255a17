use Rattle.image_join.proofs.Numbers.{AreSet}
use Rattle.image_join.proofs.ordering.numbers_of.Given as goal

abbrev pub invariant-loop-number : goal.invariant-loop-number
invariant-loop-number g l = AreSet l.parts l.order l.number l.numbers.items
