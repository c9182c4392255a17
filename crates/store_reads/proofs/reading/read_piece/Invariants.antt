use Rattle.std.proofs.Common.{map, take}
use Rattle.gate_log.specs.Reading.{record_of}
use Rattle.store_reads.specs.steps.Pieces.{IsTaken}
use Rattle.store_reads.proofs.reading.read_piece.Given as goal

abbrev pub invariant-loop-entry : goal.invariant-loop-entry
invariant-loop-entry l = IsTaken l.source.schema.now l.source.through (map record_of (take l.entry-index l.records)) l.recent
