use Rattle.std.proofs.Common.{◌≡◌, length}
use Rattle.doc_types.specs.Chunks.{place_from}
use Rattle.image_chunk.specs.Places.{StandsIn, place_in}
use Rattle.image_chunk.proofs.image_chunk.ImageChunkChunk.seek.Given as goal

abbrev pub invariant-loop-next : goal.invariant-loop-next
invariant-loop-next l = record {
  belongs : StandsIn l.self.image.0.0 l.self.image.0.1 l.self.bytes l.cursor;
  place : place_from l.row (place_in l.self.image.0.0 l.self.image.0.1 l.cursor) ≡ place_from l.row (place_in l.self.image.0.0 l.self.image.0.1 l.fn.cursor);
}

abbrev pub decreases-loop-next : goal.decreases-loop-next
decreases-loop-next l = length (place_in l.self.image.0.0 l.self.image.0.1 l.cursor).ahead
