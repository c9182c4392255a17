use Rattle.std.proofs.Common.{length}
use Rattle.reply_rows.proofs.writing.+write_sets.Given as goal

abbrev pub decreases-write_sets : goal.decreases-write_sets
decreases-write_sets g l = length l.tables.now
