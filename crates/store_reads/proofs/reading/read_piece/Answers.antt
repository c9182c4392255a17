use Rattle.store_reads.proofs.BothPieces.{refuses_next, taken_next}
use Rattle.store_reads.proofs.reading.read_piece.Goals as goal

pub returns-in-Err : goal.returns-in-Err
returns-in-Err c = refuses_next c.args.source.schema.now c.args.source.through c.args.source.file c.args.records.now c.loop-entry.entry-index _ c.in-Err.fault c.loop-entry.recent c.take_record.new.recent c.loop-entry-test.true c.loop-entry.invariant (c.in-Err.ensures _ c.loop-entry.invariant)

pub loop-entry-preserved : goal.loop-entry-preserved
loop-entry-preserved c = taken_next c.args.source.schema.now c.args.source.through c.args.records.now c.loop-entry.entry-index _ c.take_record.new.recent c.loop-entry-test.true (c.in-Ok.ensures _ c.loop-entry.invariant)
