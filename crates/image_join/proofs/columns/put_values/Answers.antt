use Rattle.std.proofs.Common.{◌≡◌, ◌<◌, ◌++◌, get_or, ap, subst, ◌∙◌, length, arith}
use Rattle.doc_bytes.specs.Payload.{value_bytes}
use Rattle.doc_bytes.specs.RoundTrip.{IsNumber}
use Rattle.image_write.proofs.Columned.{all_values, values_more}
use Rattle.image_join.specs.steps.Parts.{row_at}
use Rattle.image_join.proofs.columns.put_values.Goals as goal

pub loop-attr-preserved : goal.loop-attr-preserved
loop-attr-preserved g c =
    let values = (row_at c.args.part.now c.args.row).doc.values in
    let value = c.value.result in
    let low : c.loop-attr.attr < length values = omega (arith, c.requires.wide, c.loop-attr-test.true) in
    let same : value ≡ get_or values c.loop-attr.attr value = c.value.ensures in
    record {
      values = values_more values c.loop-attr.attr value c.args.out.now.items c.loop-attr.out.items c.put_value.new.out.items low c.loop-attr.invariant.values
          (c.in_ok-put_value.ensures.value ∙ ap (λ v. c.loop-attr.out.items ++ value_bytes v) same);
      room = all_values IsNumber values c.loop-attr.attr value low c.loop-attr.invariant.room (subst IsNumber same c.in_ok-put_value.ensures.room);
    }
