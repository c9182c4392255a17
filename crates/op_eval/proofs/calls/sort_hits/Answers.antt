use Rattle.std.proofs.Common.{rules, List, subst, sym}
use Rattle.std.specs.Prelude.{AllPairs, IsTrue}
use Rattle.std.proofs.lemmas.List.Filters.{dedup_is}
use Rattle.std.proofs.lemmas.List.Sorted.{answers_always}
use Rattle.doc_types.specs.declared.hits.Hit.{Hit}
use Rattle.occ_lists.specs.OccLists.{SameMembers}
use Rattle.op_eval.specs.Hits.{comes_before}
use Rattle.op_eval.proofs.HitOrder.{is_same, ascend_deduped, members_deduped}
use Rattle.op_eval.proofs.calls.sort_hits.Goals as goal

pub returns-clause-ascend : goal.returns-clause-ascend
returns-clause-ascend c =
    let sorted = c.sort_unstable_by_key.ensures.sorted (λ (h : Hit). (h.field, h.position, h.query, h.word)) (answers_always _ _ _ (λ f a r f' k. search rules)) in
    let left = dedup_is is_same c.sort_unstable_by_key.new.self.items c.dedup.new.self.items c.dedup.ensures.filtered in
    subst (λ (list : List Hit). AllPairs (λ hit later. IsTrue (comes_before hit later)) list) (sym left) (ascend_deduped c.sort_unstable_by_key.new.self.items sorted)

pub returns-clause-same : goal.returns-clause-same
returns-clause-same c =
    let left = dedup_is is_same c.sort_unstable_by_key.new.self.items c.dedup.new.self.items c.dedup.ensures.filtered in
    subst (λ (list : List Hit). SameMembers list c.args.list.now.items) (sym left)
    (members_deduped c.args.list.now.items c.sort_unstable_by_key.new.self.items c.sort_unstable_by_key.ensures.permutation)
