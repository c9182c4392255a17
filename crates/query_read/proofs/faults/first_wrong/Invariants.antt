use Rattle.std.proofs.Common.{◌≡◌, take, None}
use Rattle.std.specs.Prelude.{Contains}
use Rattle.query_marks.specs.declared.mark.Mark.{Mark}
use Rattle.query_read.proofs.faults.first_wrong.Given as goal

abbrev pub invariant-loop-mark : goal.invariant-loop-mark
invariant-loop-mark l = (m : Mark) → Contains (take l.mark-index l.marks) m → m.wrong ≡ None
