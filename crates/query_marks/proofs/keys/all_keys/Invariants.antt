use Rattle.std.proofs.Common.{length}
use Rattle.query_marks.proofs.RunSteps.{Spells}
use Rattle.query_marks.proofs.keys.all_keys.Given as goal

abbrev pub invariant-runs : goal.invariant-runs
invariant-runs l = Spells l.letters l.rest l.standing l.keys

abbrev pub decreases-runs : goal.decreases-runs
decreases-runs l = length l.rest
