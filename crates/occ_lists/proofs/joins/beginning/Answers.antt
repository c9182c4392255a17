use Rattle.std.proofs.Common.{List, rules, ap, refl, ◌∙◌}
use Rattle.std.specs.Borrow.{Bor}
use Rattle.std.proofs.lemmas.List.Sorted.{IsPartitionPoint-from_clause}
use Rattle.occ_lists.specs.declared.occ.Occ.{Occ}
use Rattle.occ_lists.specs.steps.Boundaries.{begins_by, begins_within}
use Rattle.occ_lists.proofs.Between.{between_got}
use Rattle.occ_lists.proofs.Beginning.{begins_before, begins_before_parted, within_is}
use Rattle.occ_lists.proofs.joins.beginning.Goals as goal

pub returns : goal.returns
returns c =
    let xs = c.args.occs.now in
    let field = c.args.field in
    let first = c.args.first in
    let last = c.args.last in
    ap (λ (r : Bor (List Occ)). r.now) c.unwrap_or.ensures
    ∙ between_got (begins_before field first) (begins_by field last) (begins_within field first last) (within_is field first last)
    xs c.partition_point-from.result c.end_of-to.result c.get.result _ c.end_of-to.ensures.bound refl c.get.ensures.lookup.0
    (IsPartitionPoint-from_clause (begins_before field first) xs _ c.partition_point-from.ensures.partitioned (begins_before_parted field first xs c.requires) (λ a r f' k. search rules))
    c.end_of-to.ensures.parted
