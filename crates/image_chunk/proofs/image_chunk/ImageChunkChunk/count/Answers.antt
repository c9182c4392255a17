use Rattle.std.proofs.Common.{◌∙◌, sym, ap, length}
use Rattle.image_chunk.proofs.Starting.{is_found, none_there, seen}
use Rattle.image_chunk.proofs.image_chunk.ImageChunkChunk.count.Goals as goal

pub returns-in-Some : goal.returns-in-Some
returns-in-Some c =
    let chunk = c.args.self.now in
    let have = seen chunk.bytes chunk.image c.as_slice-image.result.now c.as_slice-image.ensures in
    let found = is_found chunk.bytes chunk.image c.args.word.now c.in-Some.number (sym (c.number.ensures chunk.image.0.0 chunk.image.0.1 have chunk.parted) ∙ c.in-Some.is) in
    c.count.ensures chunk.image.0.0 chunk.image.0.1 c.args.word.now have chunk.parted found.there

pub returns-in-None : goal.returns-in-None
returns-in-None c =
    let chunk = c.args.self.now in
    let have = seen chunk.bytes chunk.image c.as_slice-image.result.now c.as_slice-image.ensures in
    ap length (sym (none_there chunk.bytes chunk.image c.args.word.now (sym (c.number.ensures chunk.image.0.0 chunk.image.0.1 have chunk.parted) ∙ c.in-None.is)))
