-- The values so far fill what isn't left; each takes at least a byte.
use Rattle.std.proofs.Common.{length}
use Rattle.mysql_wire.proofs.RowLaws.{ReadSoFar}
use Rattle.mysql_wire.proofs.result_sets.read_row.Given as goal

abbrev pub invariant-loop-rest : goal.invariant-loop-rest
invariant-loop-rest l = ReadSoFar l.row.items l.payload l.rest

abbrev pub decreases-loop-rest : goal.decreases-loop-rest
decreases-loop-rest l = length l.rest
