use Rattle.std.proofs.Common.{◌≡◌, ℕ, ◌<◌, ◌≤◌, Bool, ◌||◌, get_or}
use Rattle.row_flags.proofs.combining.add.Given as goal

abbrev pub invariant-loop-at : goal.invariant-loop-at
invariant-loop-at l = record {
  done : (i : ℕ) (d : Bool) → i < l.at → get_or l.flags i d ≡ (get_or l.initial.flags i d || get_or l.others i d);
  left : (i : ℕ) (d : Bool) → l.at ≤ i → get_or l.flags i d ≡ get_or l.initial.flags i d;
}
