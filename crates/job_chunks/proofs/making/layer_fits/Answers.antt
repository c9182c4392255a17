use Rattle.std.proofs.Common.{All, subst}
use Rattle.doc_types.specs.Snapshots.{LayerValue}
use Rattle.image_chunk.specs.declared.image_chunk.ImageChunk.{ImageChunk}
use Rattle.image_parts.specs.Images.{HasZones}
use Rattle.job_chunks.proofs.making.layer_fits.Goals as goal

pub returns : goal.returns
returns c =
    subst (λ (layer : LayerValue). All HasZones layer.rows) c.layer.view_is
    (subst (λ (chunk : ImageChunk). All HasZones chunk.image.0.0) c.deref.ensures c.zones_fit.ensures)
