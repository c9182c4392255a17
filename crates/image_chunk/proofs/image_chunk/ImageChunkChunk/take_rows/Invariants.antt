use Rattle.std.proofs.Common.{◌≡◌, ◌++◌, length, take}
use Rattle.image_chunk.specs.Places.{StandsIn, list_in, place_in}
use Rattle.image_chunk.proofs.image_chunk.ImageChunkChunk.take_rows.Given as goal

abbrev pub invariant-loop-taken : goal.invariant-loop-taken
invariant-loop-taken l = record {
  belongs : StandsIn l.self.image.0.0 l.self.image.0.1 l.self.bytes l.cursor;
  along : l.list ≡ list_in l.self.image.0.0 l.self.image.0.1 l.self.bytes l.cursor.word;
  long : length l.into ≡ length l.initial.into;
  word : (place_in l.self.image.0.0 l.self.image.0.1 l.cursor).word ≡ (place_in l.self.image.0.0 l.self.image.0.1 l.initial.cursor).word;
  rows : take l.taken l.into ++ (place_in l.self.image.0.0 l.self.image.0.1 l.cursor).ahead ≡ (place_in l.self.image.0.0 l.self.image.0.1 l.initial.cursor).ahead;
}
