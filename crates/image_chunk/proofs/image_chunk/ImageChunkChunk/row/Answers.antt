use Rattle.std.proofs.Common.{◌∙◌, sym}
use Rattle.image_chunk.specs.Places.{place_in}
use Rattle.image_chunk.specs.steps.CursorPlaces.{place_in-row_of}
use Rattle.image_chunk.proofs.Cursors.{if_none}
use Rattle.image_chunk.proofs.image_chunk.ImageChunkChunk.row.Goals as goal

pub returns-clause-next : goal.returns-clause-next
returns-clause-next c = c.next_row.ensures ∙ sym (place_in-row_of c.args.self.now.bytes c.args.self.now.image c.args.cursor.now c.requires)

pub returns-clause-none : goal.returns-clause-none
returns-clause-none c =
    let chunk = c.args.self.now in
    if_none c.next_row.result (place_in chunk.image.0.0 chunk.image.0.1 c.args.cursor.now) (c.next_row.ensures ∙ sym (place_in-row_of chunk.bytes chunk.image c.args.cursor.now c.requires))
