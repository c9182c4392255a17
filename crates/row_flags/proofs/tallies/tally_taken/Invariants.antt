use Rattle.std.proofs.Common.{◌≡◌, ℕ, ◌+◌, ◌<◌, get_or, length, take}
use Rattle.row_flags.specs.declared.windows.Told.{Told}
use Rattle.row_flags.specs.steps.Tallies.{changed, with_word}
use Rattle.row_flags.proofs.tallies.tally_taken.Given as goal

abbrev pub invariant-loop-row : goal.invariant-loop-row
invariant-loop-row l = record {
  long : length l.into ≡ length l.initial.into;
  each : (i : ℕ) (d : Told) → i < length l.initial.into → get_or l.into i d ≡ changed (with_word 0) (l.from + i) (get_or l.initial.into i d) (take l.row-index l.rows);
}
