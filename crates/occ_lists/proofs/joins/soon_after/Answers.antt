use Rattle.std.proofs.Common.{List, rules, ap, refl, ◌∙◌}
use Rattle.std.specs.Borrow.{Bor}
use Rattle.std.proofs.lemmas.List.Sorted.{IsPartitionPoint-from_clause}
use Rattle.occ_lists.specs.declared.occ.Occ.{Occ}
use Rattle.occ_lists.specs.steps.Beside.{goes_soon}
use Rattle.occ_lists.proofs.Between.{between_got}
use Rattle.occ_lists.proofs.Beginning.{not_after, up_to_soon, not_after_parted, up_to_soon_parted, soon_is}
use Rattle.occ_lists.proofs.joins.soon_after.Goals as goal

pub returns : goal.returns
returns c =
    let xs = c.args.occs.now in
    let x = c.args.x in
    let n = c.args.n in
    ap (λ (r : Bor (List Occ)). r.now) c.unwrap_or.ensures
    ∙ between_got (not_after x) (up_to_soon n x) (goes_soon n x) (soon_is n x)
    xs c.partition_point-from.result c.partition_point-to.result c.get.result _ c.partition_point-to.ensures.bound refl c.get.ensures.lookup.0
    (IsPartitionPoint-from_clause (not_after x) xs _ c.partition_point-from.ensures.partitioned (not_after_parted x xs c.requires) (λ a r f' k. search rules))
    (IsPartitionPoint-from_clause (up_to_soon n x) xs _ c.partition_point-to.ensures.partitioned (up_to_soon_parted n x xs c.requires) (λ a r f' k. search rules))
