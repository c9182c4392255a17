use Rattle.std.proofs.Common.{◌≡◌, ℕ, ◌+◌, ◌<◌, Bool, ◌&&◌, get_or, length, take}
use Rattle.std.specs.Prelude.{not}
use Rattle.row_flags.specs.steps.Flags.{is_dead}
use Rattle.row_flags.proofs.combining.bury.Given as goal

abbrev pub invariant-loop-row : goal.invariant-loop-row
invariant-loop-row l = record {
  long : length l.flags ≡ length l.initial.flags;
  each : (i : ℕ) (d : Bool) → i < length l.initial.flags → get_or l.flags i d ≡ (get_or l.initial.flags i d && not (is_dead (take l.row-index l.row-items) (l.from + i)));
}
