use Rattle.std.proofs.Common.{length}
use Rattle.conf_text.proofs.Joins.{Joined}
use Rattle.conf_text.proofs.lines.Lines.next_line.Given as goal

abbrev pub invariant-parts : goal.invariant-parts
invariant-parts l = Joined l.initial.self l.self l.number l.buffer.items l.utf8

abbrev pub decreases-parts : goal.decreases-parts
decreases-parts l = length l.self.rest.now
