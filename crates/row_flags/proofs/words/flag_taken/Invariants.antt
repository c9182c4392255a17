use Rattle.std.proofs.Common.{◌≡◌, ℕ, ◌+◌, ◌<◌, Bool, ◌||◌, get_or, length, take}
use Rattle.row_flags.specs.steps.Flags.{is_one_of}
use Rattle.row_flags.proofs.words.flag_taken.Given as goal

abbrev pub invariant-loop-row : goal.invariant-loop-row
invariant-loop-row l = record {
  long : length l.into ≡ length l.initial.into;
  each : (i : ℕ) (d : Bool) → i < length l.initial.into → get_or l.into i d ≡ (get_or l.initial.into i d || is_one_of (take l.row-index l.rows) (l.from + i));
}
