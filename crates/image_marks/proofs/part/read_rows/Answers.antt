use Rattle.std.proofs.Common.{arith, rules, ◌≡◌, length}
use Rattle.bit_lists.specs.BitLists.{bits_of}
use Rattle.image_marks.proofs.AllRows.{rows_left, rows_more_of}
use Rattle.image_marks.proofs.part.read_rows.Goals as goal

pub rows-preserved : goal.rows-preserved
rows-preserved c =
    let its = rw c.in-Some.is at c.in_ok-end.ensures in
    let count : c.len-fields.result ≡ length c.args.schema.now.fields = search rules in
    rows_more_of c.args.schema.now c.args.image.now c.args.enough c.args.part.now c.rows.at c.in-Some.end c.rows.last c.rows.row c.told_of-told.result c.len-fields.result c.args.starts.now.items (bits_of c.args.cover.now.taken) c.rows.starts.items (bits_of c.rows.cover.taken) c.lay_row.new.starts.items (bits_of c.lay_row.new.cover.taken)
    c.args.cover.now.least c.rows.cover.least c.lay_row.new.cover.least c.rows.invariant c.told_of-told.ensures (omega arith) count its

pub returns-then-at-part : goal.returns-then-at-part
returns-then-at-part c =
    rows_left c.args.schema.now c.args.image.now c.args.enough c.args.part.now c.rows.at c.rows.last c.rows.row c.args.rows c.args.starts.now.items (bits_of c.args.cover.now.taken) c.rows.starts.items (bits_of c.rows.cover.taken) c.args.cover.now.least c.rows.cover.least c.rows.invariant (omega arith) c.requires.none c.if-at-part.true
