use Rattle.std.proofs.Common.{All}
use Rattle.image_chunk.specs.Places.{StandsIn}
use Rattle.image_chunk.proofs.skips.put_skips.Given as goal

abbrev pub invariant-rows : goal.invariant-rows
invariant-rows l = record {
  stands : StandsIn l.chunk.image.0.0 l.chunk.image.0.1 l.chunk.bytes l.cursor;
  all : All (StandsIn l.chunk.image.0.0 l.chunk.image.0.1 l.chunk.bytes) l.into.items;
}
