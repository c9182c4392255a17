use Rattle.std.proofs.Common.{rules, List, subst, sym}
use Rattle.std.proofs.lemmas.List.Filters.{dedup_is}
use Rattle.std.proofs.lemmas.List.Sorted.{answers_always}
use Rattle.occ_lists.specs.OccLists.{Ascend, SameMembers}
use Rattle.occ_lists.specs.declared.occ.Occ.{Occ}
use Rattle.occ_lists.proofs.Ordered.{is_same, ascend_deduped, members_deduped}
use Rattle.occ_lists.proofs.order.sort_distinct.Goals as goal

pub returns-clause-ascend : goal.returns-clause-ascend
returns-clause-ascend c =
    let sorted = c.sort_unstable_by_key.ensures.sorted (λ (o : Occ). (o.field, o.first, o.last)) (answers_always _ _ _ (λ f a r f' k. search rules)) in
    let left = dedup_is is_same c.sort_unstable_by_key.new.self.items c.dedup.new.self.items c.dedup.ensures.filtered in
    subst (λ (list : List Occ). Ascend list) (sym left) (ascend_deduped c.sort_unstable_by_key.new.self.items sorted)

pub returns-clause-same : goal.returns-clause-same
returns-clause-same c =
    let left = dedup_is is_same c.sort_unstable_by_key.new.self.items c.dedup.new.self.items c.dedup.ensures.filtered in
    subst (λ (list : List Occ). SameMembers list c.args.list.now.items) (sym left)
    (members_deduped c.args.list.now.items c.sort_unstable_by_key.new.self.items c.sort_unstable_by_key.ensures.permutation)
