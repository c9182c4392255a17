use Rattle.std.proofs.Common.{arith, sym}
use Rattle.chunk_store.proofs.WholeFiles.{looks_then}
use Rattle.store_keep.proofs.Steadied.{steady_more}
use Rattle.store_keep.proofs.opening.steady_chunks.Goals as goal

pub chunks-preserved : goal.chunks-preserved
chunks-preserved g c = (
  steady_more g.D.Disk c.chunks.disk c.steady.new.disk c.args.chunks.now c.chunks.entry-index c.entry-item.result c.chunks-test.true (sym c.entry-item.is) c.steady.ensures.looks c.chunks.invariant.0 c.in-Ok.ensures.steady,
  looks_then g.D.Disk c.args.disk.now c.chunks.disk c.steady.new.disk c.chunks.invariant.1 c.steady.ensures.looks,
  (let before = c.chunks.invariant.2 in let now = c.in-Ok.ensures.cause in omega (arith, before, now)),
)
