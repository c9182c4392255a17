use Rattle.std.proofs.Common.{ℕ, ◌≤◌, ◌<◌}
use Rattle.ql_lex.specs.Tokens.{ClosesComment}
use Rattle.ql_lex.proofs.comments.comment_end.Given as goal

abbrev pub invariant-loop-place : goal.invariant-loop-place
invariant-loop-place l = (k : ℕ) → l.from ≤ k → k < l.place → ClosesComment l.text k → ⊥
