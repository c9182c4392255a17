use Rattle.std.proofs.Common.{All, take}
use Rattle.doc_types.specs.Snapshots.{LayerValue}
use Rattle.job_chunks.specs.Chunks.{HasFewRows}
use Rattle.job_chunks.proofs.rows.rows_fit.Given as goal

abbrev pub invariant-loop-layer : goal.invariant-loop-layer
invariant-loop-layer l = All (λ (layer : LayerValue). HasFewRows layer.rows) (take l.layer-index l.layers)
