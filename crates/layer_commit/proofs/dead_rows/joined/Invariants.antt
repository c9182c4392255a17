use Rattle.std.proofs.Common.{◌≡◌, ◌<◌, ◌++◌, AllPairs, drop}
use Rattle.layer_commit.specs.steps.Finding.{joined}
use Rattle.layer_commit.proofs.dead_rows.joined.Given as goal

abbrev pub invariant-loop-row : goal.invariant-loop-row
invariant-loop-row l = (l.rows.items ++ joined l.rest (drop l.row-index l.more) ≡ joined l.dead l.more) × AllPairs (λ row later. row < later) l.rest
