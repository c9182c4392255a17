use Rattle.std.proofs.Common.{length}
use Rattle.ql_read.specs.steps.PacketReading.{StatementsRead}
use Rattle.ql_read.proofs.parsing.read_statements.Given as goal

abbrev pub invariant-statements : goal.invariant-statements
invariant-statements l = StatementsRead l.fn.input l.list.items l.input

abbrev pub decreases-statements : goal.decreases-statements
decreases-statements l = length l.input
