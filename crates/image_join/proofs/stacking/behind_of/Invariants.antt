use Rattle.std.proofs.Common.{◌≡◌, ◌≤◌, ℕ, List, Some, slice_get, length}
use Rattle.doc_types.specs.Chunks.{rows_with}
use Rattle.image_join.specs.steps.Stacking.{behind}
use Rattle.image_join.proofs.stacking.behind_of.Given as goal

abbrev pub invariant-loop-row : goal.invariant-loop-row
invariant-loop-row g l = record {
  belongs : g.C.Chunk.belongs l.chunk l.cursor;
  within : l.behind ≤ length (g.C.Chunk.content l.chunk);
  both : (w : List ℕ) → slice_get (g.C.Chunk.words_of l.chunk) l.word ≡ Some w → ((g.C.Chunk.place l.chunk l.cursor).word ≡ w) × (behind l.behind (g.C.Chunk.place l.chunk l.cursor).ahead ≡ behind 0 (rows_with w (g.C.Chunk.content l.chunk)));
}

abbrev pub decreases-loop-row : goal.decreases-loop-row
decreases-loop-row g l = length (g.C.Chunk.place l.chunk l.cursor).ahead
