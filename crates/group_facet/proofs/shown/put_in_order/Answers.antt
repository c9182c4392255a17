use Rattle.std.proofs.Common.{rules}
use Rattle.std.proofs.lemmas.Fn.{always_returns_same}
use Rattle.group_facet.proofs.Orders.{comes_before, groups_rank}
use Rattle.group_facet.proofs.shown.put_in_order.Goals as goal

pub returns-clause-ascend : goal.returns-clause-ascend
returns-clause-ascend c =
    c.sort_unstable_by.ensures.sorted (comes_before c.args.asked.now.keys) (groups_rank c.args.asked.now.keys) (always_returns_same _ _ _ (λ a r f k. search rules))
