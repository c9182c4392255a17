use Rattle.std.proofs.Common.{◌∙◌, ap, ltb, rules}
use Rattle.std.proofs.lemmas.List.{take_rest}
use Rattle.std.proofs.lemmas.List.Sorted.{IsPartitionPoint-from_clause}
use Rattle.row_flags.specs.steps.Flags.{is_dead}
use Rattle.row_flags.proofs.Ascending.{dead_behind, parted}
use Rattle.row_flags.proofs.combining.dead_from.Goals as goal

pub returns-clause-same : goal.returns-clause-same
returns-clause-same c = λ row on.
    ap (λ rows. is_dead rows row) (take_rest c.args.dead.now c.partition_point-first.result)
    ∙ dead_behind c.args.from c.partition_point-first.result c.args.dead.now c.partition_point-first.ensures.bound
    (IsPartitionPoint-from_clause (λ d. ltb d c.args.from) c.args.dead.now c.partition_point-first.result c.partition_point-first.ensures.partitioned (parted c.args.from c.args.dead.now c.requires) (λ a r f k. search rules)) row on
