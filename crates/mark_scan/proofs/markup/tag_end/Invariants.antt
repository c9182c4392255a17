use Rattle.std.proofs.Common.{◌≢◌, ℕ, ◌≤◌, ◌<◌, get_or}
use Rattle.mark_scan.proofs.markup.tag_end.Given as goal

abbrev pub invariant-loop-place : goal.invariant-loop-place
invariant-loop-place l = (k : ℕ) → l.from ≤ k → k < l.place → get_or l.bytes k 0 ≢ 62
