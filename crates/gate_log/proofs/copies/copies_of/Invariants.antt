use Rattle.std.proofs.Common.{◌≡◌, map, take}
use Rattle.gate_log.specs.Reading.{record_of}
use Rattle.gate_log.proofs.copies.copies_of.Given as goal

abbrev pub invariant-loop-record : goal.invariant-loop-record
invariant-loop-record l = l.copies.items ≡ map record_of (take l.record-index l.records)
