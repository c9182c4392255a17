use Rattle.std.proofs.Common.{◌≡◌, arith, length, rules}
use Rattle.bit_lists.specs.BitLists.{bits_of}
use Rattle.image_marks.proofs.RowLaying.{apart}
use Rattle.image_marks.proofs.placing.lay_row.Goals as goal

pub returns-in_ok-lay_empty-in-Some : goal.returns-in_ok-lay_empty-in-Some
returns-in_ok-lay_empty-in-Some c =
    let its = rw c.in-Some.is at c.in_ok-end.ensures in
    let long : c.len.result ≡ length (bits_of c.args.cover.now.taken) = search rules in
    apart c.args.bytes.now c.args.at c.args.enough c.args.fields c.args.row c.args.starts.now.items (bits_of c.args.cover.now.taken) c.lay_empty.new.starts.items (bits_of c.lay_empty.new.cover.taken) c.args.cover.now.least c.lay_empty.new.cover.least c.in-Some.end
    (omega (arith, long, c.if-len-enough.false)) its c.in_ok-lay_empty-in-Some.ensures
