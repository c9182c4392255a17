use Rattle.std.proofs.Common.{◌≡◌, ◌∙◌, ◌++◌, get_or, length, refl, rules, ap, subst, arith}
use Rattle.std.specs.Int.{w32, to_le_bytes}
use Rattle.doc_types.specs.declared.documents.DocRow.{DocRow}
use Rattle.chunk_image.specs.ChunkImage.{HasRoom, row_bytes}
use Rattle.chunk_image.specs.Marks.{row_marks}
use Rattle.image_write.proofs.Columned.{all_more, columns_more, marks_more}
use Rattle.image_write.proofs.Meeting.{all_lent}
use Rattle.image_join.specs.steps.Numbering.{row_in}
use Rattle.image_join.specs.steps.Parts.{row_at}
use Rattle.image_join.proofs.Lengths.{marks_at}
use Rattle.image_join.proofs.Numbers.{blank}
use Rattle.image_join.proofs.Ordered.{row_there}
use Rattle.image_join.proofs.columns.put_rows.Goals as goal

pub loop-living-preserved : goal.loop-living-preserved
loop-living-preserved g c =
    let parts = c.args.parts.now in
    let order = c.args.order.now in
    let i = c.loop-living.living-index in
    let living = get_or order i blank in
    let part = c.index-parts-living.result in
    let columns = c.loop-living.columns.items in
    let marks = c.loop-living.marks.items in
    let there = c.requires.there i blank c.loop-living-test.true in
    let own : row_at part living.row ≡ row_in parts living = (row_there parts order i part c.loop-living-test.true there.part c.index-parts-living.is).0 in
    let is : living ≡ get_or order i living = (row_there parts order i part c.loop-living-test.true there.part c.index-parts-living.is).1 in
    let at = length marks in
    let place = c.low_place-place.result in
    let low : to_le_bytes w32 place ≡ to_le_bytes w32 at = c.low_place-place.ensures in
    let written : c.put_row.new.out.items ≡ columns ++ row_bytes place (row_at part living.row) = search rules in
    let put : c.put_row.new.out.items ≡ columns ++ row_bytes at (row_in parts living) = written ∙ ap (λ (row : DocRow). columns ++ row_bytes place row) own ∙ marks_at columns (row_in parts living) place at low in
    let fits : HasRoom (row_at part living.row) = search rules in
    let marked : c.extend_from_slice.new.self.items ≡ marks ++ row_marks (row_at part living.row) = search rules in
    let marked_by : c.extend_from_slice.new.self.items ≡ marks ++ row_marks (row_in parts living) = marked ∙ ap (λ (row : DocRow). marks ++ row_marks row) own in
    record {
      columns = columns_more (row_in parts) order i at living columns marks c.put_row.new.out.items c.extend_from_slice.new.self.items _ c.loop-living-test.true is c.loop-living.invariant.columns refl put marked_by;
      marks = marks_more (row_in parts) order i living marks c.extend_from_slice.new.self.items c.loop-living-test.true is c.loop-living.invariant.marks marked_by;
      room = all_more (λ its. HasRoom (row_in parts its)) order i living c.loop-living-test.true is c.loop-living.invariant.room (subst HasRoom own fits);
    }

pub returns-clause-room : goal.returns-clause-room
returns-clause-room g c = all_lent HasRoom (row_in c.args.parts.now) c.args.order.now c.loop-living.living-index (omega arith) c.loop-living.invariant.room
