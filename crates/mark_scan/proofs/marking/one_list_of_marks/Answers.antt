use Rattle.mark_scan.proofs.Unique.{marks_unique}
use Rattle.mark_scan.proofs.marking.one_list_of_marks.Goals as goal

pub returns : goal.returns
returns c = marks_unique
