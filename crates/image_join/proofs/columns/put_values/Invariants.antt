use Rattle.std.proofs.Common.{◌≡◌, ◌++◌, take, All}
use Rattle.std.specs.List.{flat_map}
use Rattle.doc_bytes.specs.Payload.{value_bytes}
use Rattle.doc_bytes.specs.RoundTrip.{IsNumber}
use Rattle.image_join.specs.steps.Parts.{row_at}
use Rattle.image_join.proofs.columns.put_values.Given as goal

abbrev pub invariant-loop-attr : goal.invariant-loop-attr
invariant-loop-attr g l = record {
  values : l.out.items ≡ l.initial.out.items ++ flat_map value_bytes (take l.attr (row_at l.part l.row).doc.values);
  room : All IsNumber (take l.attr (row_at l.part l.row).doc.values);
}
