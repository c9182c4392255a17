use Rattle.image_chunk.proofs.Starting.{seen}
use Rattle.image_chunk.proofs.image_chunk.ImageChunk.count_of.Goals as goal

pub returns : goal.returns
returns c = λ word there.
    let chunk = c.args.self.now in
    c.count.ensures chunk.image.0.0 chunk.image.0.1 word (seen chunk.bytes chunk.image c.as_slice.result.now c.as_slice.ensures) chunk.parted there
