use Rattle.std.proofs.Common.{rules, ◌≡◌, length}
use Rattle.bit_lists.specs.BitLists.{bits_of}
use Rattle.image_marks.proofs.AllRows.{part_answer}
use Rattle.image_marks.proofs.part.read_part.Goals as goal

pub returns-in_ok-push-in-None : goal.returns-in_ok-push-in-None
returns-in_ok-push-in-None c =
    let its = rw c.in-None.is at c.in_ok-place.ensures in
    let end : c.len-end.result ≡ length (bits_of c.read_rows.new.cover.taken) = search rules in
    part_answer c.args.schema.now c.args.image.now c.args.enough c.args.part.now c.args.rows c.len-end.result c.args.starts.now.items (bits_of c.args.cover.now.taken) c.read_rows.new.starts.items c.push.new.self.items (bits_of c.read_rows.new.cover.taken) c.args.cover.now.least c.read_rows.new.cover.least
    c.requires.begin.0 c.requires.begin.1 its end c.in_ok-push-in-None.ensures.items
