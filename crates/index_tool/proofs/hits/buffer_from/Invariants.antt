use Rattle.std.proofs.Common.{◌≡◌, length}
use Rattle.index_tool.proofs.HitRows.{IsAmid}
use Rattle.index_tool.proofs.hits.buffer_from.Given as goal

abbrev pub invariant-rows : goal.invariant-rows
invariant-rows g l = record {
  belongs : g.C.Chunk.belongs l.chunk l.here;
  word : (g.C.Chunk.place l.chunk l.here).word ≡ l.wanted.word.now;
  amid : IsAmid l.wanted.schema.now l.wanted.word.now l.wanted.entry.now (g.C.Chunk.content l.chunk) g.H.ToolHost (g.C.Chunk.place l.chunk l.here).ahead (l.initial.line.items, l.initial.host) (l.line.items, l.host);
}

abbrev pub decreases-rows : goal.decreases-rows
decreases-rows g l = length (g.C.Chunk.place l.chunk l.here).ahead
