use Rattle.std.proofs.Common.{ℕ, Option, Some, None, rules, sym, subst}
use Rattle.std.proofs.lemmas.List.Sorted.{IsPartitionPoint-from_clause}
use Rattle.occ_lists.specs.steps.Boundaries.{begins_by}
use Rattle.occ_lists.proofs.Between.{IsParted}
use Rattle.occ_lists.proofs.Beginning.{begins_by_parted, by_field}
use Rattle.occ_lists.proofs.joins.end_of.Goals as goal

pub returns-in-Some-clause-parted : goal.returns-in-Some-clause-parted
returns-in-Some-clause-parted c =
    let xs = c.args.occs.now in
    let field = c.args.field in
    subst (λ (last : Option ℕ). IsParted (begins_by field last) xs c.partition_point.result) (sym c.in-Some.is)
    (IsPartitionPoint-from_clause (begins_by field (Some c.in-Some.last)) xs _ c.partition_point.ensures.partitioned (begins_by_parted field (Some c.in-Some.last) xs c.requires) (λ a r f' k. search rules))

pub returns-in-None-clause-parted : goal.returns-in-None-clause-parted
returns-in-None-clause-parted c =
    let xs = c.args.occs.now in
    let field = c.args.field in
    subst (λ (last : Option ℕ). IsParted (begins_by field last) xs c.partition_point-in-None.result) (sym c.in-None.is)
    (IsPartitionPoint-from_clause (begins_by field None) xs _ c.partition_point-in-None.ensures.partitioned (begins_by_parted field None xs c.requires) (λ a r f' k. search (rules, by_field)))
