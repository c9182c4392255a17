use Rattle.std.proofs.Common.{◌≤◌, ◌<◌, IfSome, length}
use Rattle.layer_joins.proofs.merging.cheap_start.Given as goal

abbrev pub invariant-loop-index : goal.invariant-loop-index
invariant-loop-index g l = IfSome l.start (λ start. (l.first ≤ start) × (start < length l.layers))
