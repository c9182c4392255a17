use Rattle.std.proofs.Common.{◌-◌, ◌≡◌, ℕ, ◌<◌, ◌≤◌, false}
use Rattle.row_plans.specs.Cursors.{Agree, has_at}
use Rattle.row_plans.specs.Plans.{holds_some}
use Rattle.row_plans.proofs.bounds.of_enough.Given as goal

abbrev pub invariant-rising : goal.invariant-rising
invariant-rising g l = Agree (g.C.Chunk.belongs l.chunk) (g.C.Chunk.place l.chunk) l.from l.fn.cursors l.cursors × (l.from ≤ l.at) × ((row : ℕ) → l.from ≤ row → row < l.at → holds_some l.least l.words (has_at (g.C.Chunk.place l.chunk) l.fn.cursors row) ≡ false)

abbrev pub decreases-rising : goal.decreases-rising
decreases-rising g l = 4294967295 - l.at
