use Rattle.std.proofs.Common.{◌≡◌, map, ◌++◌, length, reverse}
use Rattle.op_eval.specs.Sentences.{item_joined_by_and}
use Rattle.op_eval.proofs.sentences.+with_and.Given as goal

abbrev pub invariant-items_with_and-items : goal.invariant-items_with_and-items
invariant-items_with_and-items l = goal.no_deeper-items_with_and-items l × (map item_joined_by_and l.rest ++ reverse l.made.items ≡ map item_joined_by_and l.fn.items)

abbrev pub decreases-items_with_and-items : goal.decreases-items_with_and-items
decreases-items_with_and-items l = length l.rest
