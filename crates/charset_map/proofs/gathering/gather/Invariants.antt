use Rattle.std.proofs.Common.{length}
use Rattle.charset_map.proofs.Gatherings.{HasGathered}
use Rattle.charset_map.proofs.gathering.gather.Given as goal

abbrev pub invariant-parts : goal.invariant-parts
invariant-parts l = HasGathered l.text l.rest l.list.items

abbrev pub decreases-parts : goal.decreases-parts
decreases-parts l = length l.rest
