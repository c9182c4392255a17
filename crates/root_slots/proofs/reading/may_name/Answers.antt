use Rattle.root_slots.proofs.Inverses.{may_be_named}
use Rattle.root_slots.proofs.reading.may_name.Goals as goal

pub returns-then-file-next_file : goal.returns-then-file-next_file
returns-then-file-next_file c = may_be_named c.args.next_file c.args.named.now c.args.file c.is_among.result c.if-file-next_file.true.0 c.if-file-next_file.true.1 c.is_among.ensures
