use Rattle.std.proofs.Common.{ℕ, List, Option}
use Rattle.std.specs.Option.{option_map}
use Rattle.image_join.specs.steps.Merging.{StandAt}
use Rattle.image_join.proofs.Least.{IsLeastTo}
use Rattle.image_join.proofs.nexts.least_of_head.Given as goal

abbrev pub invariant-loop-number : goal.invariant-loop-number
invariant-loop-number g l = (last : Option (List ℕ)) → StandAt last l.parts l.nexts → IsLeastTo last l.parts l.nexts l.head l.number (option_map (λ word. word.now) l.least)
