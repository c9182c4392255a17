use Rattle.std.proofs.Common.{subst, sym}
use Rattle.occ_lists.specs.Places.{ArePlaces}
use Rattle.word_rows.proofs.Ends.{sentences_ascend, paragraphs_ascend}
use Rattle.word_rows.proofs.Opening.{row_there}
use Rattle.word_rows.proofs.PlacedRows.{IsPlacedRow, at_one, placed_rows}
use Rattle.word_rows.proofs.marks.RowMarks.load.Goals as goal

pub returns-in-Ok-clause-marks : goal.returns-in-Ok-clause-marks
returns-in-Ok-clause-marks g c =
    let rows = g.C.Chunk.content c.args.chunk.now in
    let there = row_there rows c.args.row c.requires.row in
    let placed : IsPlacedRow there.0 = at_one IsPlacedRow rows (placed_rows rows (g.met.C.Chunk.whole c.args.chunk.now)) c.args.row there.0 there.1 in
    record {
      sentences = subst ArePlaces (sym (c.in-Ok.ensures.sentences there.0 there.1)) (sentences_ascend there.0 placed);
      paragraphs = subst ArePlaces (sym (c.in-Ok.ensures.paragraphs there.0 there.1)) (paragraphs_ascend there.0 placed);
    }
