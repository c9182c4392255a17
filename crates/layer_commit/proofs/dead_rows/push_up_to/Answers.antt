use Rattle.std.proofs.Common.{◌≡◌, ltb, rules}
use Rattle.std.proofs.lemmas.List.Sorted.{IsPartitionPoint-from_clause}
use Rattle.layer_commit.specs.steps.Finding.{before}
use Rattle.layer_commit.proofs.DeadRows.{before_is, rows_parted}
use Rattle.layer_commit.proofs.dead_rows.push_up_to.Goals as goal

pub returns-clause-count : goal.returns-clause-count
returns-clause-count c =
    before_is c.args.row c.args.dead.now c.partition_point-count.result c.partition_point-count.ensures.bound
    (IsPartitionPoint-from_clause (λ d. ltb d c.args.row) c.args.dead.now c.partition_point-count.result c.partition_point-count.ensures.partitioned (rows_parted c.args.row c.args.dead.now c.requires) (λ a r f k. search rules))

pub returns-clause-rows : goal.returns-clause-rows
returns-clause-rows c =
    let here : c.partition_point-count.result ≡ before c.args.row c.args.dead.now =
    before_is c.args.row c.args.dead.now c.partition_point-count.result c.partition_point-count.ensures.bound
    (IsPartitionPoint-from_clause (λ d. ltb d c.args.row) c.args.dead.now c.partition_point-count.result c.partition_point-count.ensures.partitioned (rows_parted c.args.row c.args.dead.now c.requires) (λ a r f k. search rules)) in
    rw (← here) (search rules)
