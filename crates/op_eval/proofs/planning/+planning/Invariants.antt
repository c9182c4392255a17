use Rattle.std.proofs.Common.{◌≡◌, ◌≤◌, ◌+◌, length, take}
use Rattle.op_eval.specs.steps.Evaluating.{items_keys}
use Rattle.op_eval.proofs.Serving.{ServesSoFar}
use Rattle.op_eval.proofs.planning.+planning.Given as goal

abbrev pub invariant-of_items-loop-item : goal.invariant-of_items-loop-item
invariant-of_items-loop-item l =
    l.fn.next + length (items_keys l.items) ≤ length l.counts → (l.next ≡ l.fn.next + length (items_keys (take l.item-index l.items))) × ServesSoFar l.fn.next l.items l.item-index l.parts.plans.items
