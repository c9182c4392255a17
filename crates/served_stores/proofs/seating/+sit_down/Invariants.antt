use Rattle.std.proofs.Common.{length}
use Rattle.served_stores.proofs.seating.+sit_down.Given as goal

abbrev pub decreases-sit_down : goal.decreases-sit_down
decreases-sit_down g l = length l.doors.now.items
