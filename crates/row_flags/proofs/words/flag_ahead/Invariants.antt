use Rattle.std.proofs.Common.{◌≡◌, ℕ, ◌+◌, ◌<◌, Bool, ◌||◌, get_or, length}
use Rattle.doc_types.specs.Chunks.{rows_from}
use Rattle.row_flags.specs.steps.Flags.{is_one_of}
use Rattle.row_flags.proofs.words.flag_ahead.Given as goal

abbrev pub invariant-loop-row : goal.invariant-loop-row
invariant-loop-row g l = record {
  belongs : g.C.Chunk.belongs l.chunk l.here;
  long : length l.into ≡ length l.initial.into;
  each : (i : ℕ) (d : Bool) → i < length l.initial.into → (get_or l.into i d || is_one_of (g.C.Chunk.place l.chunk l.here).ahead (l.from + i)) ≡ (get_or l.initial.into i d || is_one_of (rows_from l.from (g.C.Chunk.place l.chunk l.fn.cursor).ahead) (l.from + i));
}

abbrev pub decreases-loop-row : goal.decreases-loop-row
decreases-loop-row g l = length (g.C.Chunk.place l.chunk l.here).ahead
