use Rattle.store_reads.proofs.BothPieces.{cut_three, lays_then, stops_then}
use Rattle.store_reads.proofs.loading.+lay_records.Goals as goal

pub returns-in-Ok : goal.returns-in-Ok
returns-in-Ok g t c = λ chunks front laid.
    lays_then c.args.source.schema.now chunks c.args.source.through front c.args.source.file _ _ c.args.records.now c.lay_records.result c.lay_two.new.laid c.lay_records.new.laid
    (cut_three c.args.records.now _ _ _ _ _ _ c.split_at.ensures.front c.split_at.ensures.back c.split_at-2.ensures.front c.split_at-2.ensures.back) (c.in-Ok.ensures chunks front laid) (c.lay_records.ensures chunks)

pub returns-in-Err : goal.returns-in-Err
returns-in-Err g t c = λ chunks front laid.
    stops_then c.args.source.schema.now c.args.source.file _ _ c.args.records.now c.in-Err.fault
    (cut_three c.args.records.now _ _ _ _ _ _ c.split_at.ensures.front c.split_at.ensures.back c.split_at-2.ensures.front c.split_at-2.ensures.back) (c.in-Err.ensures chunks front laid)
