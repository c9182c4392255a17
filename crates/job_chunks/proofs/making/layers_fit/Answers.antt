use Rattle.std.proofs.Common.{arith, rules}
use Rattle.image_chunk.proofs.JoinedLayers.{zones_all, zones_more}
use Rattle.job_chunks.proofs.making.layers_fit.Goals as goal

pub loop-layer-preserved : goal.loop-layer-preserved
loop-layer-preserved c = zones_more c.args.layers.now c.loop-layer.layer-index c.layer-item.result (omega arith) (search rules) c.loop-layer.invariant c.layer_fits.ensures

pub returns : goal.returns
returns c = zones_all c.args.layers.now c.loop-layer.layer-index (omega arith) c.loop-layer.invariant
