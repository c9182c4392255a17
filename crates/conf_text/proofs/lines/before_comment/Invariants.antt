use Rattle.conf_text.proofs.Comments.{Looked}
use Rattle.conf_text.proofs.lines.before_comment.Given as goal

abbrev pub invariant-loop-place : goal.invariant-loop-place
invariant-loop-place l = Looked l.line l.place l.before
