use Rattle.std.proofs.Common.{All, take}
use Rattle.doc_types.specs.Snapshots.{all_living}
use Rattle.image_parts.specs.Images.{HasZones}
use Rattle.job_chunks.proofs.making.layers_fit.Given as goal

abbrev pub invariant-loop-layer : goal.invariant-loop-layer
invariant-loop-layer l = All HasZones (all_living (take l.layer-index l.layers))
