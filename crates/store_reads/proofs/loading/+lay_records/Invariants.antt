use Rattle.std.proofs.Common.{length}
use Rattle.store_reads.proofs.loading.+lay_records.Given as goal

abbrev pub decreases-lay_records : goal.decreases-lay_records
decreases-lay_records g l = length l.records.now
