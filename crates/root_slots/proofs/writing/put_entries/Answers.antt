use Rattle.root_slots.proofs.Joining.{one_more}
use Rattle.root_slots.proofs.writing.put_entries.Goals as goal

pub loop-chunk-preserved : goal.loop-chunk-preserved
loop-chunk-preserved c =
    one_more c.args.out.now.items c.loop-chunk.out.items c.put_entry.new.out.items c.args.chunks.now c.loop-chunk.chunk-index c.chunk-item.result c.loop-chunk-test.true c.chunk-item.is c.loop-chunk.invariant c.in_ok-put_entry.ensures
