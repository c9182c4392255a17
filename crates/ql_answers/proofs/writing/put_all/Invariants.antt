use Rattle.std.proofs.Common.{◌≡◌}
use Rattle.ql_answers.specs.Transactions.{put_by}
use Rattle.ql_answers.proofs.Putting.{amid}
use Rattle.ql_answers.proofs.writing.put_all.Given as goal

abbrev pub invariant-ops : goal.invariant-ops
invariant-ops l = l.ops ≡ amid put_by l.op-index l.fn.ops
