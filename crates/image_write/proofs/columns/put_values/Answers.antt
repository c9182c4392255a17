use Rattle.doc_bytes.specs.RoundTrip.{IsNumber}
use Rattle.image_write.proofs.Columned.{all_values, values_more}
use Rattle.image_write.proofs.columns.put_values.Goals as goal

pub loop-value-preserved : goal.loop-value-preserved
loop-value-preserved c = record {
  values = values_more c.args.values.now c.loop-value.value-index _ c.args.out.now.items c.loop-value.out.items c.put_value.new.out.items c.loop-value-test.true c.loop-value.invariant.values c.in_ok-put_value.ensures.value;
  room = all_values IsNumber c.args.values.now c.loop-value.value-index _ c.loop-value-test.true c.loop-value.invariant.room c.in_ok-put_value.ensures.room;
}
