use Rattle.std.proofs.Common.{length}
use Rattle.conf_text.proofs.LineRuns.{TextsRead}
use Rattle.conf_text.proofs.reading.first_bad_line.Given as goal

abbrev pub invariant-lines : goal.invariant-lines
invariant-lines l = TextsRead l.text l.lines

abbrev pub decreases-lines : goal.decreases-lines
decreases-lines l = length l.lines.rest.now
