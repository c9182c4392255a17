use Rattle.std.proofs.Common.{◌-◌, ◌≡◌, ℕ, ◌<◌, ◌≤◌, false}
use Rattle.row_plans.specs.Cursors.{Agree, has_at}
use Rattle.row_plans.specs.Plans.{holds}
use Rattle.row_plans.proofs.bounds.next.Given as goal

abbrev pub invariant-leap : goal.invariant-leap
invariant-leap g l = Agree (g.C.Chunk.belongs l.chunk) (g.C.Chunk.place l.chunk) l.at l.fn.cursors l.cursors × (l.from ≤ l.at) × ((row : ℕ) → l.from ≤ row → row < l.at → holds (has_at (g.C.Chunk.place l.chunk) l.fn.cursors row) l.plan ≡ false)

abbrev pub decreases-leap : goal.decreases-leap
decreases-leap g l = 4294967295 - l.at
