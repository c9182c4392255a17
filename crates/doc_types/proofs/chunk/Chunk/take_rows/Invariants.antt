use Rattle.std.proofs.Common.{◌≡◌, ◌++◌, length, take}
use Rattle.doc_types.proofs.chunk.Chunk.take_rows.Given as goal

abbrev pub invariant-loop-taken : goal.invariant-loop-taken
invariant-loop-taken g l = record {
  belongs : g.Self.Chunk.belongs l.self l.cursor;
  long : length l.into ≡ length l.initial.into;
  word : (g.Self.Chunk.place l.self l.cursor).word ≡ (g.Self.Chunk.place l.self l.initial.cursor).word;
  rows : take l.taken l.into ++ (g.Self.Chunk.place l.self l.cursor).ahead ≡ (g.Self.Chunk.place l.self l.initial.cursor).ahead;
}
