use Rattle.std.proofs.Common.{drop, map}
use Rattle.query_write.specs.Written.{name_of, parted}
use Rattle.query_write.specs.steps.Writes.{IsPart, parted_from}
use Rattle.query_write.proofs.tokens.put_zone_names.Given as goal

abbrev pub invariant-loop-zone : goal.invariant-loop-zone
invariant-loop-zone l = IsPart l.initial.out.items l.out.items (parted 44 (map (name_of l.names) l.zones)) (parted_from l.first 44 (map (name_of l.names) (drop l.zone-index l.zones)))
