use Rattle.std.proofs.Common.{◌∙◌, rules, tests, sym}
use Rattle.doc_types.proofs.Seeking.{at_front}
use Rattle.image_chunk.specs.Places.{place_in}
use Rattle.image_chunk.proofs.image_chunk.ImageChunkChunk.seek.Goals as goal

pub returns-then-next-row-clause-place : goal.returns-then-next-row-clause-place
returns-then-next-row-clause-place c =
    let chunk = c.args.self.now in
    sym (at_front c.args.row c.in-Some.next (place_in chunk.image.0.0 chunk.image.0.1 c.loop-next.cursor) (sym c.in-Some.ensures.next) (search (rules, tests))) ∙ c.loop-next.invariant.place
