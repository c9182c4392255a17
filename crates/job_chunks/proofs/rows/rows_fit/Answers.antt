use Rattle.std.proofs.Common.{arith, rules}
use Rattle.job_chunks.proofs.RowSizes.{few_all, few_more}
use Rattle.job_chunks.proofs.rows.rows_fit.Goals as goal

pub loop-layer-preserved : goal.loop-layer-preserved
loop-layer-preserved c = few_more c.args.layers.now c.loop-layer.layer-index c.layer-item.result (omega arith) (search rules) c.loop-layer.invariant c.layer_fits.ensures

pub returns : goal.returns
returns c = few_all c.args.layers.now c.loop-layer.layer-index (omega arith) c.loop-layer.invariant
