use Rattle.std.proofs.Common.{length}
use Rattle.reshape.proofs.numbering.+ids_from.Given as goal

abbrev pub decreases-ids_from : goal.decreases-ids_from
decreases-ids_from l = length l.ids.now
