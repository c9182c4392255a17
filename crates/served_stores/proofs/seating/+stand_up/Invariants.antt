use Rattle.std.proofs.Common.{length}
use Rattle.served_stores.proofs.seating.+stand_up.Given as goal

abbrev pub decreases-stand_up : goal.decreases-stand_up
decreases-stand_up g l = length l.seats.items
