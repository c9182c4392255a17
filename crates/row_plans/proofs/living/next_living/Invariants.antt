use Rattle.std.proofs.Common.{◌-◌, ◌≡◌, ℕ, ◌<◌, ◌≤◌, false}
use Rattle.row_plans.specs.Cursors.{Agree, has_at}
use Rattle.row_plans.specs.Living.{HasGone, is_living}
use Rattle.row_plans.proofs.living.next_living.Given as goal

abbrev pub invariant-rows : goal.invariant-rows
invariant-rows g l = Agree (g.C.Chunk.belongs l.chunk) (g.C.Chunk.place l.chunk) l.at l.fn.cursors l.cursors × HasGone l.dead l.gone l.at × (l.from ≤ l.at)
    × ((row : ℕ) → l.from ≤ row → row < l.at → is_living (has_at (g.C.Chunk.place l.chunk) l.fn.cursors row) l.plan l.dead row ≡ false)

abbrev pub decreases-rows : goal.decreases-rows
decreases-rows g l = 4294967295 - l.at
