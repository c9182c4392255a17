use Rattle.std.proofs.Common.{rules}
use Rattle.chunk_image.specs.Marks.{row_marks}
use Rattle.image_write.proofs.Marked.{row_marked}
use Rattle.image_write.proofs.marks.put_marks.Goals as goal

pub returns : goal.returns
unfolding row_marks
returns c = row_marked c.put_spans.result c.args.doc.now.fields c.args.out.now.items c.put_fields.new.out.items c.put_number.new.out.items c.put_spans.new.out.items c.count_spans.result (search rules) (search rules) (search rules) c.put_spans.ensures
