use Rattle.std.proofs.Common.{rules, ◌≡◌, length}
use Rattle.bit_lists.specs.BitLists.{bits_of}
use Rattle.image_marks.proofs.RowReading.{no_fields, row_answer}
use Rattle.image_marks.proofs.rows.read_row.Goals as goal

pub returns-in-None : goal.returns-in-None
returns-in-None c =
    let none = rw c.in-None.is at c.in_ok-end.ensures in
    no_fields c.args.bytes.now c.args.at c.args.fields none

pub returns : goal.returns
returns c =
    let its = rw c.in-Some.is at c.in_ok-end.ensures in
    let first : c.len-first.result ≡ length c.args.starts.now.items = search rules in
    let begun = c.in_ok-begin_row.ensures in
    row_answer c.args.bytes.now c.args.at c.args.fields c.in-Some.end c.len-first.result c.args.row c.args.starts.now.items (bits_of c.args.cover.now.taken) c.begin_row.new.starts.items (bits_of c.begin_row.new.cover.taken) c.read_fields.new.starts.items (bits_of c.read_fields.new.cover.taken)
    c.args.cover.now.least c.begin_row.new.cover.least c.read_fields.new.cover.least c.spans_behind-found.result c.requires.few first
    begun.0 begun.1 begun.2 its.0 its.1 its.2 its.3 its.4 its.5 its.6 c.spans_behind-found.ensures
