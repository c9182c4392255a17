use Rattle.image_join.specs.steps.Merging.{IsLeastHead}
use Rattle.image_join.proofs.nexts.least_of.Given as goal

abbrev pub invariant-loop-number : goal.invariant-loop-number
invariant-loop-number l = IsLeastHead l.nexts l.number l.place l.least
