use Rattle.std.proofs.Common.{rules, ◌≡◌, ◌++◌}
use Rattle.std.specs.Prelude.{OnOk}
use Rattle.std.specs.List.{flat_map}
use Rattle.std.specs.Int.{w64, to_le_bytes}
use Rattle.doc_bytes.specs.Payload.{all_spans_bytes, field_bytes, value_bytes}
use Rattle.doc_bytes.proofs.Joining.{four}
use Rattle.doc_bytes.proofs.writing.put_doc.Goals as goal

pub returns-clause-ok : goal.returns-clause-ok
returns-clause-ok c =
    let doc = c.args.doc.now in
    let values : c.put_values.new.out.items ≡ c.put_u64.new.out.items ++ flat_map value_bytes doc.values = search rules in
    let fields : c.put_fields.new.out.items ≡ c.put_values.new.out.items ++ flat_map field_bytes doc.fields = search rules in
    let spans : OnOk c.put_all_spans.result (c.put_all_spans.new.out.items ≡ c.put_fields.new.out.items ++ all_spans_bytes doc.fields) = search rules in
    four c.put_all_spans.result c.args.out.now.items c.put_u64.new.out.items c.put_values.new.out.items c.put_fields.new.out.items c.put_all_spans.new.out.items
    (to_le_bytes w64 doc.id) (flat_map value_bytes doc.values) (flat_map field_bytes doc.fields) (all_spans_bytes doc.fields)
    c.in_ok-put_u64.ensures.ok values fields spans
