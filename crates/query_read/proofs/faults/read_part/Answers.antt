use Rattle.query_read.proofs.FirstFaults.{read_before}
use Rattle.query_read.proofs.faults.read_part.Goals as goal

pub returns-in-Some : goal.returns-in-Some
returns-in-Some c = read_before c.args.marks.now c.args.stop c.in-Some.place c.marks_before.result c.in-Some.is c.requires.orderly c.requires.stops c.marks_before.ensures
