use Rattle.std.proofs.Common.{◌≡◌, ℕ, ◌+◌, ◌<◌, Some, get_or, length, slice_get, true}
use Rattle.doc_types.specs.declared.documents.DocRow.{DocRow}
use Rattle.doc_types.specs.Chunks.{rows_from, rows_with}
use Rattle.row_flags.specs.declared.windows.Told.{Told}
use Rattle.row_flags.specs.steps.Tallies.{changed, fields_for, with_word}
use Rattle.row_flags.proofs.tallies.tally_fields.Given as goal

abbrev pub invariant-loop-row : goal.invariant-loop-row
invariant-loop-row g l = record {
  belongs : g.C.Chunk.belongs l.chunk l.here;
  word : (g.C.Chunk.place l.chunk l.here).word ≡ l.key.word;
  long : length l.into ≡ length l.initial.into;
  each : (i : ℕ) (row : DocRow) (d : Told) → i < length l.initial.into → slice_get (g.C.Chunk.content l.chunk) (l.from + i) ≡ Some row → changed (with_word (fields_for true l.key row)) (l.from + i) (get_or l.into i d) (g.C.Chunk.place l.chunk l.here).ahead ≡ changed (with_word (fields_for true l.key row)) (l.from + i) (get_or l.initial.into i d) (rows_from l.from (rows_with l.key.word (g.C.Chunk.content l.chunk)));
}

abbrev pub decreases-loop-row : goal.decreases-loop-row
decreases-loop-row g l = length (g.C.Chunk.place l.chunk l.here).ahead
