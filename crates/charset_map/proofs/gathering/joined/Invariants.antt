use Rattle.charset_map.proofs.Joining.{HasJoined}
use Rattle.charset_map.proofs.gathering.joined.Given as goal

abbrev pub invariant-loop-at : goal.invariant-loop-at
invariant-loop-at l = HasJoined l.sorted.items l.at l.spans
