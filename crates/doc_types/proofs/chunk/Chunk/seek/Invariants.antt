use Rattle.std.proofs.Common.{◌≡◌, length}
use Rattle.doc_types.specs.Chunks.{place_from}
use Rattle.doc_types.proofs.chunk.Chunk.seek.Given as goal

abbrev pub invariant-loop-next : goal.invariant-loop-next
invariant-loop-next g l = record {
  belongs : g.Self.Chunk.belongs l.self l.cursor;
  place : place_from l.row (g.Self.Chunk.place l.self l.cursor) ≡ place_from l.row (g.Self.Chunk.place l.self l.initial.cursor);
}

abbrev pub decreases-loop-next : goal.decreases-loop-next
decreases-loop-next g l = length (g.Self.Chunk.place l.self l.cursor).ahead
