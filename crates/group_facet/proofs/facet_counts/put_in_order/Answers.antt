use Rattle.std.proofs.Common.{rules}
use Rattle.std.proofs.lemmas.Fn.{always_returns_same}
use Rattle.group_facet.proofs.Orders.{leads, values_rank}
use Rattle.group_facet.proofs.facet_counts.put_in_order.Goals as goal

pub returns-clause-ascend : goal.returns-clause-ascend
returns-clause-ascend c =
    c.sort_unstable_by.ensures.sorted (leads c.args.facet.now) (values_rank c.args.facet.now) (always_returns_same _ _ _ (λ a r f k. search rules))
