use Rattle.std.proofs.Common.{List, rules, ap, refl, ◌∙◌}
use Rattle.std.specs.Borrow.{Bor}
use Rattle.std.proofs.lemmas.List.Sorted.{IsPartitionPoint-from_clause}
use Rattle.occ_lists.specs.declared.occ.Occ.{Occ}
use Rattle.occ_lists.specs.steps.Beside.{goes_before}
use Rattle.occ_lists.proofs.Between.{between_got}
use Rattle.occ_lists.proofs.Beginning.{not_after, in_or_before, not_after_parted, in_or_before_parted, before_is}
use Rattle.occ_lists.proofs.joins.following.Goals as goal

pub returns : goal.returns
returns c =
    let xs = c.args.occs.now in
    let x = c.args.x in
    ap (λ (r : Bor (List Occ)). r.now) c.unwrap_or.ensures
    ∙ between_got (not_after x) (in_or_before x) (goes_before x) (before_is x)
    xs c.partition_point-from.result c.partition_point-to.result c.get.result _ c.partition_point-to.ensures.bound refl c.get.ensures.lookup.0
    (IsPartitionPoint-from_clause (not_after x) xs _ c.partition_point-from.ensures.partitioned (not_after_parted x xs c.requires) (λ a r f' k. search rules))
    (IsPartitionPoint-from_clause (in_or_before x) xs _ c.partition_point-to.ensures.partitioned (in_or_before_parted x xs c.requires) (λ a r f' k. search rules))
