use Rattle.std.proofs.Common.{◌-◌, rules, slice_index_or, tests}
use Rattle.image_chunk.specs.Places.{place_in}
use Rattle.image_chunk.proofs.Cursors.{left_next}
use Rattle.image_chunk.proofs.Starting.{first_next}
use Rattle.image_chunk.proofs.image_chunk.ImageChunk.near_end.Goals as goal

pub returns-then-count_of-le-SKIP-clause-some : goal.returns-then-count_of-le-SKIP-clause-some
returns-then-count_of-le-SKIP-clause-some c =
    let chunk = c.args.self.now in
    first_next chunk.bytes chunk.image c.args.number (place_in chunk.image.0.0 chunk.image.0.1 c.front.result) c.requires c.front.ensures.first

pub returns-then-skip-clause-some : goal.returns-then-skip-clause-some
returns-then-skip-clause-some c =
    left_next c.args.self.now.bytes c.args.self.now.image (slice_index_or c.as_slice-skips.result.now (c.before-found.result - 1) (record { word = 0; at = 0; index = 0 }))
    (search (rules, tests)) (search (rules, tests))

pub returns-clause-some : goal.returns-clause-some
returns-clause-some c =
    let chunk = c.args.self.now in
    first_next chunk.bytes chunk.image c.args.number (place_in chunk.image.0.0 chunk.image.0.1 c.front-2.result) c.requires c.front-2.ensures.first
