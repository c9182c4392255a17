use Rattle.std.proofs.Common.{◌≡◌, ◌++◌, rules, arith, ap, length}
use Rattle.std.specs.List.{flat_map}
use Rattle.image_write.specs.steps.Marking.{marks_in}
use Rattle.image_write.proofs.Marked.{spans_more}
use Rattle.image_write.proofs.marks.put_spans.Goals as goal

pub loop-number-preserved : goal.loop-number-preserved
loop-number-preserved c =
    let put : c.put_field_spans.new.out.items ≡ c.loop-number.out.items ++ flat_map (marks_in c.loop-number.number) c.field-item.result.spans = search rules in
    spans_more c.args.doc.now.fields c.loop-number.number c.field-item.result c.args.out.now.items c.loop-number.out.items c.put_field_spans.new.out.items (omega (arith, ap length c.as_slice-field-items.ensures)) (search rules) c.loop-number.invariant put
