use Rattle.std.proofs.Common.{refl, rules, tests}
use Rattle.image_chunk.specs.Places.{list_in}
use Rattle.image_chunk.proofs.Cursors.{at_its_end, goes_on}
use Rattle.image_chunk.proofs.image_chunk.ImageChunkChunk.advance.Goals as goal

pub returns-then-cursor-clause-next : goal.returns-then-cursor-clause-next
returns-then-cursor-clause-next c = at_its_end c.args.self.now.bytes c.args.self.now.image c.args.cursor.now c.requires (search (rules, tests))

pub returns-clause-ended : goal.returns-clause-ended
returns-clause-ended c = λ none.
    let chunk = c.args.self.now in
    absurd ((goes_on chunk.bytes chunk.image c.args.cursor.now (list_in chunk.image.0.0 chunk.image.0.1 chunk.bytes c.args.cursor.now.word) refl c.requires (search (rules, tests))).left none)
