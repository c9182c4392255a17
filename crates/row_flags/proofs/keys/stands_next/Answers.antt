use Rattle.word_rows.proofs.PlacedRows.{IsPlacedRow, at_one, placed_rows}
use Rattle.row_flags.proofs.Places.{fields_place}
use Rattle.row_flags.proofs.keys.stands_next.Goals as goal

pub returns : goal.returns
returns g c = λ found here has.
    let rows = g.C.Chunk.content c.args.chunk.now in
    fields_place rows (g.C.Chunk.place c.args.chunk.now c.args.cursor.now) c.args.row c.fields_at.result c.args.key.now found c.requires.looks
    (at_one IsPlacedRow rows (placed_rows rows (g.met.C.Chunk.whole c.args.chunk.now)) c.args.row found here) c.requires.word c.requires.next here c.fields_at.ensures.bits
