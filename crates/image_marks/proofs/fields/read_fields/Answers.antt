use Rattle.bit_lists.specs.BitLists.{bits_of}
use Rattle.image_marks.proofs.FieldReading.{fields_more, fields_stop}
use Rattle.image_marks.proofs.fields.read_fields.Goals as goal

pub returns-in-None : goal.returns-in-None
returns-in-None c =
    let none = rw c.in-None.is at c.in_ok-end.ensures in
    fields_stop c.args.bytes.now c.args.at c.fields.place c.fields.counter c.args.count c.args.row c.args.starts.now.items (bits_of c.args.cover.now.taken) c.fields.starts.items (bits_of c.fields.cover.taken) c.args.cover.now.least c.fields.cover.least c.fields.invariant c.fields-test.true none

pub fields-preserved : goal.fields-preserved
fields-preserved c =
    let read = rw c.in-Some.is at c.in_ok-end.ensures in
    fields_more c.args.bytes.now c.args.at c.fields.place c.in-Some.end c.fields.counter c.args.row c.args.starts.now.items (bits_of c.args.cover.now.taken) c.fields.starts.items (bits_of c.fields.cover.taken) c.read_field.new.starts.items (bits_of c.read_field.new.cover.taken) c.args.cover.now.least c.fields.cover.least c.read_field.new.cover.least c.fields.invariant read
