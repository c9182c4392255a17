use Rattle.std.proofs.Common.{◌≡◌, ◌+◌, length}
use Rattle.std.specs.List.{count_by}
use Rattle.table_search.specs.steps.Counting.{lives_among}
use Rattle.table_search.proofs.keywords.add_rows.Given as goal

abbrev pub invariant-loop-row : goal.invariant-loop-row
invariant-loop-row g l =
    g.C.Chunk.belongs l.chunk l.here
    × (l.count + count_by (lives_among l.dead) (g.C.Chunk.place l.chunk l.here).ahead ≡ l.docs + count_by (lives_among l.dead) (g.C.Chunk.place l.chunk l.fn.cursor).ahead)

abbrev pub decreases-loop-row : goal.decreases-loop-row
decreases-loop-row g l = length (g.C.Chunk.place l.chunk l.here).ahead
