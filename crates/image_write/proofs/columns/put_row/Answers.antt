use Rattle.std.proofs.Common.{◌≡◌, ◌++◌, rules}
use Rattle.std.specs.List.{flat_map}
use Rattle.std.specs.Int.{w32, w64, to_le_bytes}
use Rattle.doc_bytes.specs.Payload.{value_bytes}
use Rattle.image_write.proofs.Marked.{four}
use Rattle.image_write.proofs.columns.put_row.Goals as goal

pub returns-clause-columns : goal.returns-clause-columns
returns-clause-columns c =
    let doc = c.args.doc.now in
    let values : c.put_values.new.out.items ≡ c.put_u64-2.new.out.items ++ flat_map value_bytes doc.values = search rules in
    four c.put_u32.result c.args.out.now.items c.put_u64.new.out.items c.put_u64-2.new.out.items c.put_values.new.out.items c.put_u32.new.out.items
    (to_le_bytes w64 doc.id) (to_le_bytes w64 c.args.born) (flat_map value_bytes doc.values) (to_le_bytes w32 c.args.marks)
    c.in_ok-put_u64.ensures.ok c.in_ok-put_u64-2.ensures.ok values c.put_u32.ensures.ok
