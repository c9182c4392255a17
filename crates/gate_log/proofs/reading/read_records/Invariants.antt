use Rattle.std.proofs.Common.{length}
use Rattle.gate_log.proofs.Fronts.{Front}
use Rattle.gate_log.proofs.reading.read_records.Given as goal

abbrev pub invariant-records : goal.invariant-records
invariant-records l = Front l.before l.bytes l.records.items l.last l.rest

abbrev pub decreases-records : goal.decreases-records
decreases-records l = length l.rest
