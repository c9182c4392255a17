use Rattle.std.proofs.Common.{◌≡◌, ℕ, ◌+◌, ◌<◌, Some, get_or, length, map, slice_get, take}
use Rattle.doc_types.specs.declared.documents.DocRow.{DocRow}
use Rattle.row_flags.specs.declared.windows.Told.{Told}
use Rattle.row_flags.specs.steps.Tallies.{tally_all}
use Rattle.row_flags.proofs.tallies.tally_keys.Given as goal

abbrev pub invariant-loop-key : goal.invariant-loop-key
invariant-loop-key g l = record {
  long : length l.into ≡ length l.initial.into;
  tallied : (i : ℕ) (row : DocRow) (d : Told) → i < length l.initial.into → slice_get (g.C.Chunk.content l.chunk) (l.from + i) ≡ Some row → get_or l.into i d ≡ tally_all l.by_fields row (map (λ key. key.now) (take l.key-index l.keys)) (get_or l.initial.into i d);
}
