use Rattle.std.proofs.Common.{length}
use Rattle.served_stores.proofs.ends.+without_notes.Given as goal

abbrev pub decreases-without_notes : goal.decreases-without_notes
decreases-without_notes g l = length l.ended.items
