use Rattle.std.proofs.Common.{rules}
use Rattle.std.specs.List.Sorted.{IsSortedBy}
use Rattle.std.proofs.lemmas.Fn.{always_returns_same}
use Rattle.row_select.proofs.Selected.{precedes, precedes_ranks}
use Rattle.row_select.proofs.collector.keep_first.Goals as goal

pub returns : goal.returns
returns c =
    let order = c.args.order.now in
    let sort = c.sort_unstable_by in
    let ascend : IsSortedBy (precedes order) sort.new.self.items =
    sort.ensures.sorted (precedes order) (precedes_ranks order) (always_returns_same _ _ _ (λ a r f k. search rules)) in
    (sort.new.self.items, record { same = sort.ensures.permutation; ascend = ascend }, c.truncate.ensures.items)
