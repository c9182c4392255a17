use Rattle.std.proofs.Common.{◌≡◌, ◌<◌, ◌||◌, ℕ, length}
use Rattle.table_search.specs.steps.Counting.{is_marked, is_row_of}
use Rattle.table_search.proofs.prefix_docs.mark_ahead.Given as goal

abbrev pub invariant-loop-row : goal.invariant-loop-row
invariant-loop-row g l = record {
  belongs : g.C.Chunk.belongs l.chunk l.here;
  long : length l.marks ≡ length l.fn.marks;
  marked : (row : ℕ) → row < length l.fn.marks → (is_marked l.marks row || is_row_of (g.C.Chunk.place l.chunk l.here).ahead row) ≡ (is_marked l.fn.marks row || is_row_of (g.C.Chunk.place l.chunk l.fn.cursor).ahead row);
}

abbrev pub decreases-loop-row : goal.decreases-loop-row
decreases-loop-row g l = length (g.C.Chunk.place l.chunk l.here).ahead
