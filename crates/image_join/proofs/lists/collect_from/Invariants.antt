use Rattle.std.proofs.Common.{◌≡◌, ◌++◌, ℕ, List, Some, slice_get, length}
use Rattle.std.specs.List.{flat_map}
use Rattle.image_join.specs.steps.Entries.{entries_from, entry_of, lent}
use Rattle.image_join.proofs.lists.collect_from.Given as goal

abbrev pub invariant-loop-row : goal.invariant-loop-row
invariant-loop-row g l = record {
  belongs : g.C.Chunk.belongs l.chunk l.cursor;
  both : (w : List ℕ) → slice_get (g.C.Chunk.words_of l.chunk) l.word ≡ Some w → ((g.C.Chunk.place l.chunk l.cursor).word ≡ w) × (lent l.found.items ++ flat_map (entry_of w l.numbers l.first (g.C.Chunk.content l.chunk)) (g.C.Chunk.place l.chunk l.cursor).ahead ≡ lent l.initial.found.items ++ entries_from w l.numbers l.first (g.C.Chunk.content l.chunk));
}

abbrev pub decreases-loop-row : goal.decreases-loop-row
decreases-loop-row g l = length (g.C.Chunk.place l.chunk l.cursor).ahead
