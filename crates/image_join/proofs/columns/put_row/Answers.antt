use Rattle.std.proofs.Common.{◌≡◌, ◌++◌, rules}
use Rattle.std.specs.List.{flat_map}
use Rattle.std.specs.Int.{w32, w64, to_le_bytes}
use Rattle.doc_bytes.specs.Payload.{value_bytes}
use Rattle.image_write.proofs.Marked.{four}
use Rattle.image_join.specs.steps.Parts.{row_at}
use Rattle.image_join.proofs.columns.put_row.Goals as goal

pub returns-clause-columns : goal.returns-clause-columns
returns-clause-columns g c =
    let row = row_at c.args.part.now c.args.row in
    let id : c.put_u64.new.out.items ≡ c.args.out.now.items ++ to_le_bytes w64 row.doc.id = search rules in
    let born : c.put_u64-2.new.out.items ≡ c.put_u64.new.out.items ++ to_le_bytes w64 row.born = search rules in
    let values : c.put_values.new.out.items ≡ c.put_u64-2.new.out.items ++ flat_map value_bytes row.doc.values = search rules in
    four c.put_u32.result c.args.out.now.items c.put_u64.new.out.items c.put_u64-2.new.out.items c.put_values.new.out.items c.put_u32.new.out.items
    (to_le_bytes w64 row.doc.id) (to_le_bytes w64 row.born) (flat_map value_bytes row.doc.values) (to_le_bytes w32 c.args.marks)
    id born values c.put_u32.ensures.ok
