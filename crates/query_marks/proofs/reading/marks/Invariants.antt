use Rattle.std.proofs.Common.{length, ◌-◌}
use Rattle.charset_map.specs.Spans.{folded}
use Rattle.query_marks.specs.Marks.{alphabet_in, setting_of}
use Rattle.query_marks.proofs.MarkSteps.{Marked}
use Rattle.query_marks.proofs.reading.marks.Given as goal

abbrev pub invariant-pieces : goal.invariant-pieces
invariant-pieces l = Marked (alphabet_in (setting_of (folded l.charset) l.schema)) (setting_of (folded l.charset) l.schema) l.text l.marks.items l.state l.inside l.at l.negated

abbrev pub decreases-pieces : goal.decreases-pieces
decreases-pieces l = length l.text - l.at
