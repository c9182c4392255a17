use Rattle.std.proofs.Common.{ℕ, ◌≤◌, ◌<◌}
use Rattle.mark_scan.specs.Markup.{EndsComment}
use Rattle.mark_scan.proofs.markup.comment_end.Given as goal

abbrev pub invariant-loop-place : goal.invariant-loop-place
invariant-loop-place l = (k : ℕ) → l.from ≤ k → k < l.place → EndsComment l.bytes k → ⊥
