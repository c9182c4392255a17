use Rattle.std.proofs.Common.{sym, subst}
use Rattle.layer_joins.specs.Joins.{AreSorted}
use Rattle.image_chunk.proofs.JoinedLayers.{image_joined}
use Rattle.image_chunk.proofs.joining.ImageChunkJoinChunk.join.Goals as goal

pub over-requires : goal.over-requires
over-requires c =
    let its = image_joined _ c.in_ok-bytes.bytes.items c.layers_fit.ensures c.in_ok-bytes.ensures.is c.in_ok-bytes.ensures.short in
    ((c.in_ok-bytes.ensures.is.rows, its.0), its.1)

pub returns : goal.returns
returns c =
    let joined = c.in_ok-bytes.ensures.is in
    let its = image_joined _ c.in_ok-bytes.bytes.items c.layers_fit.ensures joined c.in_ok-bytes.ensures.short in
    subst (AreSorted _) (sym (c.in_ok-chunk.ensures.content joined.rows its.0 its.1)) joined.are
