use Rattle.std.proofs.Common.{◌≡◌, ℕ, ◌+◌, ◌<◌, get_or, length}
use Rattle.doc_types.specs.Chunks.{rows_from}
use Rattle.row_flags.specs.declared.windows.Told.{Told}
use Rattle.row_flags.specs.steps.Tallies.{changed, with_word}
use Rattle.row_flags.proofs.tallies.tally_ahead.Given as goal

abbrev pub invariant-loop-row : goal.invariant-loop-row
invariant-loop-row g l = record {
  belongs : g.C.Chunk.belongs l.chunk l.here;
  long : length l.into ≡ length l.initial.into;
  each : (i : ℕ) (d : Told) → i < length l.initial.into → changed (with_word 0) (l.from + i) (get_or l.into i d) (g.C.Chunk.place l.chunk l.here).ahead ≡ changed (with_word 0) (l.from + i) (get_or l.initial.into i d) (rows_from l.from (g.C.Chunk.place l.chunk l.fn.cursor).ahead);
}

abbrev pub decreases-loop-row : goal.decreases-loop-row
decreases-loop-row g l = length (g.C.Chunk.place l.chunk l.here).ahead
