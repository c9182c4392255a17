use Rattle.std.proofs.Common.{ℕ, List, subst, sym}
use Rattle.std.proofs.lemmas.List.Filters.{dedup_is}
use Rattle.occ_lists.specs.OccLists.{SameMembers}
use Rattle.occ_lists.specs.Places.{ArePlaces}
use Rattle.occ_lists.proofs.PlaceSorting.{is_same, ascend_deduped, members_deduped}
use Rattle.occ_lists.proofs.wanted.sort_places.Goals as goal

pub returns-clause-ascend : goal.returns-clause-ascend
returns-clause-ascend c =
    let left = dedup_is is_same c.sort_unstable.new.self.items c.dedup.new.self.items c.dedup.ensures.filtered in
    subst (λ (list : List (ℕ × ℕ)). ArePlaces list) (sym left) (ascend_deduped c.sort_unstable.new.self.items c.sort_unstable.ensures.sorted)

pub returns-clause-same : goal.returns-clause-same
returns-clause-same c =
    let left = dedup_is is_same c.sort_unstable.new.self.items c.dedup.new.self.items c.dedup.ensures.filtered in
    subst (λ (list : List (ℕ × ℕ)). SameMembers list c.args.places.now.items) (sym left)
    (members_deduped c.args.places.now.items c.sort_unstable.new.self.items c.sort_unstable.ensures.permutation)
