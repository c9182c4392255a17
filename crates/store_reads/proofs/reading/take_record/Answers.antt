use Rattle.std.proofs.Common.{length}
use Rattle.doc_bytes.specs.Reading.{txn_at}
use Rattle.gate_log.specs.Reading.{record_of}
use Rattle.store_reads.proofs.Loads.{taken_more, txn_is, was_read}
use Rattle.store_reads.proofs.reading.take_record.Goals as goal

pub returns-in-Ok-take : goal.returns-in-Ok-take
returns-in-Ok-take c = λ front taken.
    let schema = c.args.source.schema.now in
    let bytes = c.args.entry.now.payload.now in
    let is = txn_is (txn_at schema bytes) (length bytes) c.in-Ok.txn c.in-Ok.ensures.exact in
    let found = c.in-Ok.ensures.found in
    taken_more schema c.args.source.through front (record_of c.args.entry.now) c.args.recent.now c.take.new.recent c.in-Ok.txn taken (was_read schema c.args.entry.now.number bytes c.in-Ok.txn is found.0 found.1 found.2) is found.0.operations c.in-Ok-take.ensures
