use Rattle.image_chunk.proofs.Building.{image_of}
use Rattle.image_chunk.proofs.image_chunk.ImageChunk.build.Goals as goal

pub over-requires : goal.over-requires
over-requires c =
    let its = image_of c.args.rows.items c.as_slice-list.result.now c.in_ok-bytes.bytes.items c.counts_of-fields.result.0 c.counts_of-fields.result.1 c.as_slice-list.ensures.value c.requires c.counts_of-fields.ensures c.in_ok-bytes.ensures.is c.in_ok-bytes.ensures.short c.zones_fit.ensures in
    ((c.args.rows.items, its.0), its.1)

pub returns : goal.returns
returns c =
    let its = image_of c.args.rows.items c.as_slice-list.result.now c.in_ok-bytes.bytes.items c.counts_of-fields.result.0 c.counts_of-fields.result.1 c.as_slice-list.ensures.value c.requires c.counts_of-fields.ensures c.in_ok-bytes.ensures.is c.in_ok-bytes.ensures.short c.zones_fit.ensures in
    c.in_ok-chunk.ensures.content c.args.rows.items its.0 its.1
