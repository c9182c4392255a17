use Rattle.op_eval.proofs.Searches.{as_many_counts}
use Rattle.op_eval.proofs.search.Search.over.Goals as goal

pub plan_of-requires : goal.plan_of-requires
plan_of-requires g c = as_many_counts (g.C.Chunk.content c.args.chunk.now) c.in_ok-slots.slots.keys.items c.deref.result.now c.in_ok-counts.counts.items _ c.args.root.now c.in_ok-slots.ensures.keys c.deref.ensures.value c.in_ok-counts.ensures c.deref-2.ensures.value
