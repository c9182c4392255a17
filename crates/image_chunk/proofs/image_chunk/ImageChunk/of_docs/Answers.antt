use Rattle.std.proofs.Common.{map, refl}
use Rattle.image_write.specs.Written.{row_of}
use Rattle.image_chunk.proofs.Building.{image_of}
use Rattle.image_chunk.proofs.image_chunk.ImageChunk.of_docs.Goals as goal

pub over-requires : goal.over-requires
over-requires c =
    let rows = map (λ doc. row_of doc.now c.args.number) c.args.docs.now in
    let its = image_of rows rows c.in_ok-bytes.bytes.items c.counts_of_docs-fields.result.0 c.counts_of_docs-fields.result.1 refl c.requires c.counts_of_docs-fields.ensures c.in_ok-bytes.ensures.is c.in_ok-bytes.ensures.short c.docs_fit.ensures in
    ((rows, its.0), its.1)

pub returns : goal.returns
returns c =
    let rows = map (λ doc. row_of doc.now c.args.number) c.args.docs.now in
    let its = image_of rows rows c.in_ok-bytes.bytes.items c.counts_of_docs-fields.result.0 c.counts_of_docs-fields.result.1 refl c.requires c.counts_of_docs-fields.ensures c.in_ok-bytes.ensures.is c.in_ok-bytes.ensures.short c.docs_fit.ensures in
    c.in_ok-chunk.ensures.content rows its.0 its.1
