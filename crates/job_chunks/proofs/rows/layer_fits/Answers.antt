use Rattle.std.proofs.Common.{subst}
use Rattle.doc_types.specs.Snapshots.{LayerValue}
use Rattle.image_chunk.specs.declared.image_chunk.ImageChunk.{ImageChunk}
use Rattle.job_chunks.specs.Chunks.{HasFewRows}
use Rattle.job_chunks.proofs.rows.layer_fits.Goals as goal

pub returns : goal.returns
returns c =
    subst (λ (layer : LayerValue). HasFewRows layer.rows) c.layer.view_is
    (subst (λ (chunk : ImageChunk). HasFewRows chunk.image.0.0) c.deref.ensures c.chunk_fits.ensures)
