use Rattle.std.proofs.Common.{length}
use Rattle.rank_expr.specs.Marks.{marks_of}
use Rattle.rank_expr.proofs.MarkPlaces.{StillAhead}
use Rattle.rank_expr.proofs.reading.mark_at.Given as goal

abbrev pub invariant-marks : goal.invariant-marks
invariant-marks l = StillAhead l.place (marks_of l.fn.schema l.fn.text) l.input

abbrev pub decreases-marks : goal.decreases-marks
decreases-marks l = length l.input
