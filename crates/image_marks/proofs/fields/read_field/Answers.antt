use Rattle.std.proofs.Common.{arith, rules, ◌≡◌, length}
use Rattle.bit_lists.specs.BitLists.{bits_of}
use Rattle.image_marks.proofs.FieldReading.{field_answer, no_count, too_long}
use Rattle.image_marks.proofs.fields.read_field.Goals as goal

pub returns-then-last-gt-MAX_POSITION : goal.returns-then-last-gt-MAX_POSITION
returns-then-last-gt-MAX_POSITION c =
    let its = c.in-Some.ensures in
    too_long c.args.bytes.now c.args.at c.in-Some.read.0 its.0 its.1 (omega arith)

pub returns-in-None-short_of : goal.returns-in-None-short_of
returns-in-None-short_of c =
    let its = c.in-Some.ensures in
    no_count c.args.bytes.now c.args.at c.in-Some.read.0 c.in-Some.read.1 its.0 its.1 its.2 c.in-None-short_of.ensures

pub returns : goal.returns
returns c =
    let its = c.in-Some.ensures in
    let counts = c.in-Some-short_of.ensures in
    let start : c.len-start.result ≡ length (bits_of c.args.cover.now.taken) = search rules in
    field_answer c.args.bytes.now c.args.at c.in-Some.read.0 c.in-Some.read.1 c.in-Some-short_of.read.0 c.in-Some-short_of.read.1 c.args.row c.len-start.result its.0 counts.0 c.args.starts.now.items (bits_of c.args.cover.now.taken) (bits_of c.grow.new.cover.taken) c.push.new.self.items
    (bits_of c.read_gaps-found.new.cover.taken) c.args.cover.now.least c.grow.new.cover.least c.read_gaps-found.new.cover.least c.read_gaps-found.result
    its.1 its.2 (omega arith) counts.1 counts.2 start c.in_ok-push.ensures.items c.in_ok-grow.ensures.0 c.in_ok-grow.ensures.1 c.read_gaps-found.ensures
