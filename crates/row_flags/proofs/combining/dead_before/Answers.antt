use Rattle.std.proofs.Common.{ltb, rules}
use Rattle.std.proofs.lemmas.List.Sorted.{IsPartitionPoint-from_clause}
use Rattle.row_flags.proofs.Ascending.{dead_before, parted}
use Rattle.row_flags.proofs.combining.dead_before.Goals as goal

pub returns : goal.returns
returns c =
    dead_before c.args.end c.partition_point-count.result c.args.dead.now c.partition_point-count.ensures.bound
    (IsPartitionPoint-from_clause (λ d. ltb d c.args.end) c.args.dead.now c.partition_point-count.result c.partition_point-count.ensures.partitioned (parted c.args.end c.args.dead.now c.requires) (λ a r f k. search rules))
