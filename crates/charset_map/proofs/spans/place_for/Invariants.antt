use Rattle.std.proofs.Common.{◌-◌, length}
use Rattle.charset_map.proofs.Overlaps.{Gathers}
use Rattle.charset_map.proofs.spans.place_for.Given as goal

abbrev pub invariant-loop-to : goal.invariant-loop-to
invariant-loop-to l = Gathers l.span l.spans l.from l.to l.whole

abbrev pub decreases-loop-to : goal.decreases-loop-to
decreases-loop-to l = length l.spans - l.to
