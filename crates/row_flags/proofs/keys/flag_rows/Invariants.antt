use Rattle.std.proofs.Common.{◌≡◌, length}
use Rattle.row_flags.proofs.RowsAhead.{AreFlagging}
use Rattle.row_flags.proofs.keys.flag_rows.Given as goal

abbrev pub invariant-loop-row : goal.invariant-loop-row
invariant-loop-row g l = record {
  belongs : g.C.Chunk.belongs l.chunk l.here;
  word : (g.C.Chunk.place l.chunk l.here).word ≡ l.key.word;
  flagging : AreFlagging (g.C.Chunk.content l.chunk) l.key l.from (g.C.Chunk.place l.chunk l.here).ahead l.into;
  long : length l.into ≡ length l.initial.into;
}

abbrev pub decreases-loop-row : goal.decreases-loop-row
decreases-loop-row g l = length (g.C.Chunk.place l.chunk l.here).ahead
