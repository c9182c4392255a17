use Rattle.std.proofs.Common.{◌≡◌, ◌<◌, ◌≤◌, ℕ, length, get_or}
use Rattle.layer_commit.proofs.dead_rows.all_rows.Given as goal

abbrev pub invariant-loop-row : goal.invariant-loop-row
invariant-loop-row g l = record {
  long : length l.rows.items ≡ l.row;
  within : l.row ≤ l.count;
  each : (k d : ℕ) → k < l.row → get_or l.rows.items k d ≡ k;
}
