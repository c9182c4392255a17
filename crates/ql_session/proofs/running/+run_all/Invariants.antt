use Rattle.std.proofs.Common.{length}
use Rattle.ql_session.proofs.running.+run_all.Given as goal

-- proposed from what the function passes where it calls itself
abbrev pub decreases-run_all : goal.decreases-run_all
decreases-run_all g l = length l.statements.now
