use Rattle.std.proofs.Common.{All}
use Rattle.image_chunk.specs.Places.{StandsIn}
use Rattle.image_chunk.proofs.image_chunk.ImageChunk.over.Given as goal

abbrev pub invariant-loop-number : goal.invariant-loop-number
invariant-loop-number l = All (StandsIn l.plain.image.0.0 l.plain.image.0.1 l.plain.bytes) l.skips.items
