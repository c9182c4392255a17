use Rattle.std.proofs.Common.{length}
use Rattle.conf_text.proofs.LineRuns.{LinesRead}
use Rattle.conf_text.proofs.reading.take_lines.Given as goal

abbrev pub invariant-lines : goal.invariant-lines
invariant-lines l = LinesRead l.text l.lines l.indexes.items l.place

abbrev pub decreases-lines : goal.decreases-lines
decreases-lines l = length l.lines.rest.now
