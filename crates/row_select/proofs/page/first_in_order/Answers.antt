use Rattle.std.proofs.Common.{rules}
use Rattle.std.specs.List.Sorted.{IsSortedBy, IsSplitAroundBy}
use Rattle.std.proofs.lemmas.Fn.{always_returns_same}
use Rattle.row_select.proofs.Selected.{all_in_order, precedes, precedes_ranks, selected}
use Rattle.row_select.proofs.page.first_in_order.Goals as goal

pub returns-then-count-rows : goal.returns-then-count-rows
returns-then-count-rows c =
    let order = c.args.order.now in
    let parts = c.select_nth_unstable_by-first.result in
    let split : IsSplitAroundBy (precedes order) parts.0.now parts.1.now parts.2.now =
    c.select_nth_unstable_by-first.ensures.partitioned (precedes order) (precedes_ranks order) (always_returns_same _ _ _ (λ a r f k. search rules)) in
    let ascend : IsSortedBy (precedes order) c.sort_unstable_by.new.self =
    c.sort_unstable_by.ensures.sorted (precedes order) (precedes_ranks order) (always_returns_same _ _ _ (λ a r f k. search rules)) in
    selected order c.args.rows.now parts.0.now parts.1.now parts.2.now c.sort_unstable_by.new.self c.args.count c.select_nth_unstable_by-first.ensures.permutation
    c.select_nth_unstable_by-first.ensures.front_len split c.sort_unstable_by.ensures.permutation ascend

pub returns-else-count-rows : goal.returns-else-count-rows
returns-else-count-rows c =
    let order = c.args.order.now in
    let sort = c.sort_unstable_by-else-count-rows in
    let ascend : IsSortedBy (precedes order) sort.new.self =
    sort.ensures.sorted (precedes order) (precedes_ranks order) (always_returns_same _ _ _ (λ a r f k. search rules)) in
    all_in_order order c.args.rows.now sort.new.self c.args.count c.if-count-rows.false sort.ensures.permutation ascend
