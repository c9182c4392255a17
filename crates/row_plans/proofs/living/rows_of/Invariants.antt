use Rattle.std.proofs.Common.{◌-◌, ◌≡◌, ◌≤◌}
use Rattle.std.specs.List.{filter, range_with_len}
use Rattle.row_plans.specs.Cursors.{Agree, has_at}
use Rattle.row_plans.specs.Living.{HasGone, is_living}
use Rattle.row_plans.proofs.living.rows_of.Given as goal

abbrev pub invariant-rows : goal.invariant-rows
invariant-rows g l = Agree (g.C.Chunk.belongs l.chunk) (g.C.Chunk.place l.chunk) l.at l.fn.cursors l.cursors × HasGone l.dead l.gone l.at × (l.at ≤ l.count)
    × (l.found.items ≡ filter (λ row. is_living (has_at (g.C.Chunk.place l.chunk) l.fn.cursors row) l.plan l.dead row) (range_with_len 0 l.at))

abbrev pub decreases-rows : goal.decreases-rows
decreases-rows g l = l.count - l.at
